use Rattle.std.specs.Prelude.{nat_lt}
use Rattle.view_marks.specs.Onlookers.{AreWhere}
use Rattle.view_marks.proofs.onlooking.everybody.Given as goal

abbrev pub invariant-loop-number : goal.invariant-loop-number
invariant-loop-number l = AreWhere l.seats (λ p. nat_lt p l.number)
