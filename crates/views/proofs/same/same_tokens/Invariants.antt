use Rattle.std.proofs.Common.{◌≡◌, drop}
use Rattle.std.specs.Cmp.Lexicographic.{pointwise}
use Rattle.views.specs.Same.{same_token}
use Rattle.views.proofs.same.same_tokens.Given as goal

abbrev pub invariant-loop-i : goal.invariant-loop-i
invariant-loop-i l = pointwise same_token (drop l.i l.a) (drop l.i l.b) ≡ pointwise same_token l.a l.b
