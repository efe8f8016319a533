use Rattle.std.proofs.Common.{subst}
use Rattle.command_json.specs.declared.command.Command.{Command}
use Rattle.command_effects.specs.Allowed.{IsAllowed}
use Rattle.command_effects.proofs.Moves.{may_move}
use Rattle.command_effects.proofs.effects.steps_by.Goals as goal

pub move_steps-requires : goal.move_steps-requires
move_steps-requires c = may_move c.args.scene.now c.args.seat c.in-Move.token c.in-Move.path c.told-told.ensures.scene c.told-told.ensures.maps (subst (λ (command : Command). IsAllowed c.args.scene.now c.args.seat command) c.in-Move.is c.requires)
