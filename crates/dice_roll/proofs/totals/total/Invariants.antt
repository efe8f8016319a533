use Rattle.dice_roll.proofs.RollingTerms.{SoFar}
use Rattle.dice_roll.proofs.totals.total.Given as goal

abbrev pub invariant-loop-term : goal.invariant-loop-term
invariant-loop-term l = SoFar l.fn.stream l.stream l.terms l.term-index l.total
