-- A tag that joins the others is new, and there is room for it.
use Rattle.std.proofs.Common.{◌≡◌, false, sym, ap, ◌∙◌}
use Rattle.seats.specs.Book.{tag_used, tags_spent}
use Rattle.seats.proofs.Tags.{kept_with}
use Rattle.seats.proofs.seat_book.SeatBook.use_tag.Goals as goal
use Rattle.seats.proofs.seat_book.SeatBook.use_tag.Goals.{in-Ok, in-Err}

pub invariant_of-self : goal.invariant_of-self
invariant_of-self c =
    let new : tag_used c.self.inside.tags.items c.args.tag ≡ false = ap (λ b. tag_used b.tags c.args.tag) c.self.view_is ∙ sym c.has_tag.ensures ∙ c.if-has_tag.false in
    let room : tags_spent c.self.inside.seat c.self.inside.tags.items ≡ false = ap (λ b. tags_spent b.seat b.tags) c.self.view_is ∙ sym c.tags_spent.ensures ∙ c.if-tags_spent.false in
    elim c.match-push.branch [
      | in-Ok w ↦ rw w.in-Ok.ensures.items (kept_with c.self.inside.seat c.self.inside.tags.items c.args.tag c.self.inside.lines c.self.inside.state new room c.self.invariant)
      | in-Err w ↦ rw w.in-Err.ensures.items c.self.invariant
    ]
