use Rattle.std.proofs.Common.{◌≡◌}
use Rattle.cells.specs.Cells.{has}
use Rattle.cells.specs.Rects.{is_in}
use Rattle.fog_book.specs.Rects.{told_before}
use Rattle.fog_book.proofs.paint.set_rect.Given as goal

abbrev pub invariant-loop-y : goal.invariant-loop-y
invariant-loop-y l = l.cells ≡ told_before l.size (is_in l.rect) l.shown (has l.fn.cells) 0 l.y

abbrev pub invariant-loop-x : goal.invariant-loop-x
invariant-loop-x l = l.cells ≡ told_before l.size (is_in l.rect) l.shown (has l.fn.cells) l.x l.y
