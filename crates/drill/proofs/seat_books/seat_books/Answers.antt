use Rattle.std.proofs.Common.{◌∙◌, ◌++◌, ◌∷◌, [], sym}
use Rattle.drill.proofs.TagLemmas.{books_more}
use Rattle.drill.proofs.seat_books.seat_books.Goals as goal

pub loop-number-preserved : goal.loop-number-preserved
loop-number-preserved c =
    c.in-Ok.ensures.items
    ∙ (λ i. c.loop-number.invariant i ++ c.in_ok-book_of.ensures i ∷ [])
    ∙ sym (books_more c.loop-number.number)
