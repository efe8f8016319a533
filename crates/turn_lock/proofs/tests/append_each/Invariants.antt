use Rattle.turn_lock.specs.Pass.{IsPassOf}
use Rattle.turn_lock.proofs.tests.append_each.Given as goal

abbrev pub invariant-loop-turn : goal.invariant-loop-turn
invariant-loop-turn g l = IsPassOf l.hall l.pass
