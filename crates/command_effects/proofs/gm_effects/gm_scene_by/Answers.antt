use Rattle.std.proofs.Common.{sym, ap, subst}
use Rattle.command_json.specs.declared.command.Command.{Command}
use Rattle.command_effects.specs.Allowed.{IsAllowed, MayStand}
use Rattle.command_effects.specs.Tags.{tag_made}
use Rattle.command_effects.proofs.GmCommands.{map_may, mode_may, show_may, trail_may, terrain_may, wall_may, unwall_may, lighttype_may, sighttype_may, token_may, own_may, layer_may, visible_may, sight_may, place_may, secret_may, expose_may, hide_may}
use Rattle.command_effects.proofs.gm_effects.gm_scene_by.Goals as goal

pub with_new_map-requires : goal.with_new_map-requires
with_new_map-requires c = map_may c.args.scene.now c.args.seat c.in-Map.name c.in-Map.w c.in-Map.h (subst (λ (command : Command). IsAllowed c.args.scene.now c.args.seat command) c.in-Map.is c.requires.allowed)

pub with_mode-requires : goal.with_mode-requires
with_mode-requires c = mode_may c.args.scene.now c.args.seat c.in-Mode.map c.in-Mode.mode (subst (λ (command : Command). IsAllowed c.args.scene.now c.args.seat command) c.in-Mode.is c.requires.allowed)

pub with_shown-requires : goal.with_shown-requires
with_shown-requires c = show_may c.args.scene.now c.args.seat c.in-Show.map c.in-Show.on (subst (λ (command : Command). IsAllowed c.args.scene.now c.args.seat command) c.in-Show.is c.requires.allowed)

pub with_trail-requires : goal.with_trail-requires
with_trail-requires c = trail_may c.args.scene.now c.args.seat c.in-Trail.map c.in-Trail.on (subst (λ (command : Command). IsAllowed c.args.scene.now c.args.seat command) c.in-Trail.is c.requires.allowed)

pub with_letters-requires-clause-fits : goal.with_letters-requires-clause-fits
with_letters-requires-clause-fits c = terrain_may c.args.scene.now c.args.seat c.in-Terrain.map c.in-Terrain.rect c.in-Terrain.kind (subst (λ (command : Command). IsAllowed c.args.scene.now c.args.seat command) c.in-Terrain.is c.requires.allowed)

pub with_wall-requires-clause-ends : goal.with_wall-requires-clause-ends
with_wall-requires-clause-ends c = (wall_may c.args.scene.now c.args.seat c.in-Wall.map c.in-Wall.kind c.in-Wall.a c.in-Wall.b (subst (λ (command : Command). IsAllowed c.args.scene.now c.args.seat command) c.in-Wall.is c.requires.allowed)).wall

pub with_wall-requires-clause-new : goal.with_wall-requires-clause-new
with_wall-requires-clause-new c = (wall_may c.args.scene.now c.args.seat c.in-Wall.map c.in-Wall.kind c.in-Wall.a c.in-Wall.b (subst (λ (command : Command). IsAllowed c.args.scene.now c.args.seat command) c.in-Wall.is c.requires.allowed)).new

pub without_wall-requires-clause-ends : goal.without_wall-requires-clause-ends
without_wall-requires-clause-ends c = (unwall_may c.args.scene.now c.args.seat c.in-Unwall.map c.in-Unwall.kind c.in-Unwall.a c.in-Unwall.b (subst (λ (command : Command). IsAllowed c.args.scene.now c.args.seat command) c.in-Unwall.is c.requires.allowed)).wall

pub without_wall-requires-clause-there : goal.without_wall-requires-clause-there
without_wall-requires-clause-there c = (unwall_may c.args.scene.now c.args.seat c.in-Unwall.map c.in-Unwall.kind c.in-Unwall.a c.in-Unwall.b (subst (λ (command : Command). IsAllowed c.args.scene.now c.args.seat command) c.in-Unwall.is c.requires.allowed)).there

pub with_light_type-requires : goal.with_light_type-requires
with_light_type-requires c = lighttype_may c.args.scene.now c.args.seat c.in-Lighttype.name c.in-Lighttype.radius (subst (λ (command : Command). IsAllowed c.args.scene.now c.args.seat command) c.in-Lighttype.is c.requires.allowed)

pub with_sight_type-requires : goal.with_sight_type-requires
with_sight_type-requires c = sighttype_may c.args.scene.now c.args.seat c.in-Sighttype.name c.in-Sighttype.range c.in-Sighttype.night c.in-Sighttype.mult (subst (λ (command : Command). IsAllowed c.args.scene.now c.args.seat command) c.in-Sighttype.is c.requires.allowed)

pub with_gm_token-requires-clause-absent : goal.with_gm_token-requires-clause-absent
with_gm_token-requires-clause-absent c = c.requires.new c.in-Token.tag (ap tag_made c.in-Token.is)

pub with_gm_token-requires-clause-stands : goal.with_gm_token-requires-clause-stands
with_gm_token-requires-clause-stands c = subst (λ side. MayStand c.args.scene.now c.in-Token.map side c.in-Token.cell) (sym c.side_of-side.ensures) (token_may c.args.scene.now c.args.seat c.in-Token.tag c.in-Token.map c.in-Token.cell c.in-Token.name c.in-Token.size c.in-Token.layer (subst (λ (command : Command). IsAllowed c.args.scene.now c.args.seat command) c.in-Token.is c.requires.allowed))

pub with_owner-requires-clause-there : goal.with_owner-requires-clause-there
with_owner-requires-clause-there c = (own_may c.args.scene.now c.args.seat c.in-Own.token c.in-Own.owner c.in-Own.on (subst (λ (command : Command). IsAllowed c.args.scene.now c.args.seat command) c.in-Own.is c.requires.allowed)).0

pub with_owner-requires-clause-player : goal.with_owner-requires-clause-player
with_owner-requires-clause-player c = (own_may c.args.scene.now c.args.seat c.in-Own.token c.in-Own.owner c.in-Own.on (subst (λ (command : Command). IsAllowed c.args.scene.now c.args.seat command) c.in-Own.is c.requires.allowed)).1

pub on_layer-requires : goal.on_layer-requires
on_layer-requires c = layer_may c.args.scene.now c.args.seat c.in-Layer.token c.in-Layer.layer (subst (λ (command : Command). IsAllowed c.args.scene.now c.args.seat command) c.in-Layer.is c.requires.allowed)

pub with_visible-requires : goal.with_visible-requires
with_visible-requires c = visible_may c.args.scene.now c.args.seat c.in-Visible.token c.in-Visible.on (subst (λ (command : Command). IsAllowed c.args.scene.now c.args.seat command) c.in-Visible.is c.requires.allowed)

pub with_sight-requires-clause-there : goal.with_sight-requires-clause-there
with_sight-requires-clause-there c = (sight_may c.args.scene.now c.args.seat c.in-Sight.token c.in-Sight.sight (subst (λ (command : Command). IsAllowed c.args.scene.now c.args.seat command) c.in-Sight.is c.requires.allowed)).0

pub with_sight-requires-clause-known : goal.with_sight-requires-clause-known
with_sight-requires-clause-known c = (sight_may c.args.scene.now c.args.seat c.in-Sight.token c.in-Sight.sight (subst (λ (command : Command). IsAllowed c.args.scene.now c.args.seat command) c.in-Sight.is c.requires.allowed)).1

pub placed-requires : goal.placed-requires
placed-requires c = place_may c.args.scene.now c.args.seat c.in-Place.token c.in-Place.map c.in-Place.cell (subst (λ (command : Command). IsAllowed c.args.scene.now c.args.seat command) c.in-Place.is c.requires.allowed)

pub with_prop-requires-clause-room : goal.with_prop-requires-clause-room
with_prop-requires-clause-room c = secret_may c.args.scene.now c.args.seat c.in-Secret.token c.in-Secret.name c.in-Secret.value (subst (λ (command : Command). IsAllowed c.args.scene.now c.args.seat command) c.in-Secret.is c.requires.allowed)

pub exposed-requires-clause-fits : goal.exposed-requires-clause-fits
exposed-requires-clause-fits c = (expose_may c.args.scene.now c.args.seat c.in-Expose.player c.in-Expose.map c.in-Expose.rect (subst (λ (command : Command). IsAllowed c.args.scene.now c.args.seat command) c.in-Expose.is c.requires.allowed)).0

pub exposed-requires-clause-player : goal.exposed-requires-clause-player
exposed-requires-clause-player c = (expose_may c.args.scene.now c.args.seat c.in-Expose.player c.in-Expose.map c.in-Expose.rect (subst (λ (command : Command). IsAllowed c.args.scene.now c.args.seat command) c.in-Expose.is c.requires.allowed)).1

pub hidden-requires-clause-fits : goal.hidden-requires-clause-fits
hidden-requires-clause-fits c = (hide_may c.args.scene.now c.args.seat c.in-Hide.player c.in-Hide.map c.in-Hide.rect (subst (λ (command : Command). IsAllowed c.args.scene.now c.args.seat command) c.in-Hide.is c.requires.allowed)).0

pub hidden-requires-clause-player : goal.hidden-requires-clause-player
hidden-requires-clause-player c = (hide_may c.args.scene.now c.args.seat c.in-Hide.player c.in-Hide.map c.in-Hide.rect (subst (λ (command : Command). IsAllowed c.args.scene.now c.args.seat command) c.in-Hide.is c.requires.allowed)).1
