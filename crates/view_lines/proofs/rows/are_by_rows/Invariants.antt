use Rattle.std.proofs.Common.{◌≡◌, true}
use Rattle.std.specs.Prelude.{nat_le}
use Rattle.std.specs.List.{AllAdjacentBelow}
use Rattle.view_lines.proofs.rows.are_by_rows.Given as goal

abbrev pub invariant-loop-i : goal.invariant-loop-i
invariant-loop-i l = AllAdjacentBelow (λ x y. nat_le x.0.y y.0.y ≡ true) l.letters l.i
