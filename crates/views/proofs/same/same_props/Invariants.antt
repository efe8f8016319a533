use Rattle.std.proofs.Common.{◌≡◌, drop}
use Rattle.std.specs.Cmp.Lexicographic.{pointwise}
use Rattle.views.specs.Same.{same_bytes}
use Rattle.views.proofs.same.same_props.Given as goal

abbrev pub invariant-loop-i : goal.invariant-loop-i
invariant-loop-i l = pointwise same_bytes (drop l.i l.a) (drop l.i l.b) ≡ pointwise same_bytes l.a l.b
