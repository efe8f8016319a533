use Rattle.std.proofs.Common.{◌≡◌, ◌∙◌, sym, ap, arith}
use Rattle.cells.specs.Cells.{Extent, cells_where}
use Rattle.cells.specs.Scan.{scanned}
use Rattle.cells.proofs.ScanLemmas.{scanned_row, scanned_all, scanned_past, scanned_more}
use Rattle.topology.specs.Sight.{field_test}
use Rattle.topology.proofs.plain_eye.mark_field.Goals as goal
use Rattle.topology.proofs.plain_eye.mark_field.Goals.{then-is_in_field, else-is_in_field}

pub loop-x-preserved : goal.loop-x-preserved
loop-x-preserved c =
    elim c.if-is_in_field.branch [
      | then-is_in_field w ↦
          w.out-is ∙ (rw c.loop-x.invariant at w.add.ensures)
          ∙ scanned_more _ (field_test c.args.walls.now c.args.eye) _ _ (sym w.if-is_in_field.ensures)
      | else-is_in_field w ↦
          w.out-is ∙ c.loop-x.invariant
          ∙ scanned_past _ (field_test c.args.walls.now c.args.eye) _ _ (sym w.if-is_in_field.ensures)
    ]

pub loop-y-preserved : goal.loop-y-preserved
loop-y-preserved c =
    let end : c.loop-x.x ≡ c.size-size.result.w = omega arith in
    c.loop-x.invariant
    ∙ ap (λ x. scanned c.size-size.result (field_test c.args.walls.now c.args.eye) x c.loop-y.y) end
    ∙ scanned_row _ (field_test c.args.walls.now c.args.eye) _

pub returns : goal.returns
returns c =
    let end : c.loop-y.y ≡ c.size-size.result.h = omega arith in
    c.loop-y.invariant
    ∙ ap (λ y. scanned c.size-size.result (field_test c.args.walls.now c.args.eye) 0 y) end
    ∙ scanned_all _ (field_test c.args.walls.now c.args.eye)
    ∙ ap (λ (e : Extent). cells_where e (field_test c.args.walls.now c.args.eye)) c.size-size.ensures
