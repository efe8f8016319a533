use Rattle.std.proofs.Common.{◌≡◌, ap, arith, sym, cond, ◌∙◌}
use Rattle.cells.specs.Cells.{Extent, cells_where, has}
use Rattle.cells.specs.Rects.{is_in}
use Rattle.fog_book.specs.Rects.{told_before}
use Rattle.fog_book.proofs.Painting.{told_before_row, told_before_all, told_before_past, told_before_more}
use Rattle.fog_book.proofs.paint.set_rect.Goals as goal
use Rattle.fog_book.proofs.paint.set_rect.Goals.{then-is_in, else-is_in}

pub loop-x-preserved : goal.loop-x-preserved
loop-x-preserved c = elim c.if-is_in.branch [
  | then-is_in w ↦ w.cells-is ∙ (rw c.loop-x.invariant at w.set_cell.ensures)
      ∙ told_before_more c.size-size.result (is_in c.args.rect) c.args.shown (has c.args.cells.now) c.loop-x.x c.loop-y.y (sym w.if-is_in.ensures)
  | else-is_in w ↦ w.cells-is ∙ c.loop-x.invariant
      ∙ told_before_past c.size-size.result (is_in c.args.rect) c.args.shown (has c.args.cells.now) c.loop-x.x c.loop-y.y (sym w.if-is_in.ensures)
]

pub loop-y-preserved : goal.loop-y-preserved
loop-y-preserved c =
    let end : c.loop-x.x ≡ c.size-size.result.w = omega arith in
    c.loop-x.invariant
    ∙ ap (λ x. told_before c.size-size.result (is_in c.args.rect) c.args.shown (has c.args.cells.now) x c.loop-y.y) end
    ∙ told_before_row c.size-size.result (is_in c.args.rect) c.args.shown (has c.args.cells.now) c.loop-y.y

pub returns : goal.returns
returns c =
    let end : c.loop-y.y ≡ c.size-size.result.h = omega arith in
    c.loop-y.invariant
    ∙ ap (λ y. told_before c.size-size.result (is_in c.args.rect) c.args.shown (has c.args.cells.now) 0 y) end
    ∙ told_before_all c.size-size.result (is_in c.args.rect) c.args.shown (has c.args.cells.now)
    ∙ ap (λ (e : Extent). cells_where e (λ x y. cond (is_in c.args.rect x y) c.args.shown (has c.args.cells.now x y))) c.size-size.ensures.value
