use Rattle.std.proofs.Common.{◌∙◌, sym, arith}
use Rattle.command_effects.proofs.Moves.{no_more}
use Rattle.command_effects.proofs.effects.cell_after.Goals as goal

pub returns : goal.returns
returns c = sym (no_more c.loop-place.left c.loop-place.last c.args.path.now c.loop-place.place-index (omega (arith, c.loop-place-test.false))) ∙ c.loop-place.invariant.rest
