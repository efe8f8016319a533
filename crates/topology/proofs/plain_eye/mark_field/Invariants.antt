use Rattle.std.proofs.Common.{◌≡◌}
use Rattle.cells.specs.Scan.{scanned}
use Rattle.topology.specs.Sight.{field_test}
use Rattle.topology.proofs.plain_eye.mark_field.Given as goal

abbrev pub invariant-loop-y : goal.invariant-loop-y
invariant-loop-y l = l.out ≡ scanned l.size (field_test l.walls l.eye) 0 l.y

abbrev pub invariant-loop-x : goal.invariant-loop-x
invariant-loop-x l = l.out ≡ scanned l.size (field_test l.walls l.eye) l.x l.y
