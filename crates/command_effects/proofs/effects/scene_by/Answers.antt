use Rattle.std.proofs.Common.{ap, subst}
use Rattle.command_json.specs.declared.command.Command.{Command}
use Rattle.command_effects.specs.Allowed.{IsAllowed}
use Rattle.command_effects.specs.Tags.{tag_made}
use Rattle.command_effects.proofs.Moves.{may_move}
use Rattle.command_effects.proofs.Allowed.{may_set, may_light, may_init, may_uninit, may_make, makes_as_player}
use Rattle.command_effects.proofs.effects.scene_by.Goals as goal

pub with_prop-requires-clause-room : goal.with_prop-requires-clause-room
with_prop-requires-clause-room c = may_set c.args.scene.now c.args.seat c.in-Setprop.token c.in-Setprop.class c.in-Setprop.name c.in-Setprop.value c.told-told.ensures.tokens (subst (λ (command : Command). IsAllowed c.args.scene.now c.args.seat command) c.in-Setprop.is c.requires.allowed)

pub with_light-requires-clause-there : goal.with_light-requires-clause-there
with_light-requires-clause-there c = (may_light c.args.scene.now c.args.seat c.in-Light.token c.in-Light.light c.told-told.ensures.tokens (subst (λ (command : Command). IsAllowed c.args.scene.now c.args.seat command) c.in-Light.is c.requires.allowed)).0

pub with_light-requires-clause-known : goal.with_light-requires-clause-known
with_light-requires-clause-known c = (may_light c.args.scene.now c.args.seat c.in-Light.token c.in-Light.light c.told-told.ensures.tokens (subst (λ (command : Command). IsAllowed c.args.scene.now c.args.seat command) c.in-Light.is c.requires.allowed)).1

pub with_entry-requires : goal.with_entry-requires
with_entry-requires c = may_init c.args.scene.now c.args.seat c.in-Init.token c.in-Init.value c.told-told.ensures.tokens (subst (λ (command : Command). IsAllowed c.args.scene.now c.args.seat command) c.in-Init.is c.requires.allowed)

pub without_entry-requires : goal.without_entry-requires
without_entry-requires c = may_uninit c.args.scene.now c.args.seat c.in-Uninit.token c.told-told.ensures.tokens (subst (λ (command : Command). IsAllowed c.args.scene.now c.args.seat command) c.in-Uninit.is c.requires.allowed)

pub with_players_token-requires-clause-absent : goal.with_players_token-requires-clause-absent
with_players_token-requires-clause-absent c = c.requires.new c.in-Make.tag (ap tag_made c.in-Make.is)

pub with_players_token-requires-clause-stands : goal.with_players_token-requires-clause-stands
with_players_token-requires-clause-stands c = may_make c.args.scene.now c.args.seat c.in-Make.tag c.in-Make.map c.in-Make.cell c.in-Make.name c.told-told.ensures.maps (subst (λ (command : Command). IsAllowed c.args.scene.now c.args.seat command) c.in-Make.is c.requires.allowed)

pub with_players_token-requires-clause-player : goal.with_players_token-requires-clause-player
with_players_token-requires-clause-player c = makes_as_player c.args.scene.now c.args.seat c.in-Make.tag c.in-Make.map c.in-Make.cell c.in-Make.name c.requires.seat (subst (λ (command : Command). IsAllowed c.args.scene.now c.args.seat command) c.in-Make.is c.requires.allowed)

pub moved-requires : goal.moved-requires
moved-requires c = may_move c.args.scene.now c.args.seat c.in-Move.token c.in-Move.path c.told-told.ensures.scene c.told-told.ensures.maps (subst (λ (command : Command). IsAllowed c.args.scene.now c.args.seat command) c.in-Move.is c.requires.allowed)
