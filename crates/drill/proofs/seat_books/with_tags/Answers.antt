use Rattle.std.proofs.Common.{◌∙◌, ap, sym}
use Rattle.seats.specs.Book.{with_tag}
use Rattle.drill.proofs.TagLemmas.{tags_more}
use Rattle.drill.proofs.seat_books.with_tags.Goals as goal

pub loop-number-preserved : goal.loop-number-preserved
loop-number-preserved c =
    c.in-Ok.ensures.ok
    ∙ (λ i. with_tag (c.loop-number.invariant i) (c.in_ok-tag_of.ensures i))
    ∙ ap (λ tags. record c.args.book { tags = tags }) (sym (tags_more c.loop-number.number))
