use Rattle.std.proofs.Common.{◌≡◌, ◌+◌, ◌∙◌, refl, sym, cond, length, None}
use Rattle.campaign_core.specs.Places.{posted}
use Rattle.campaign_core.proofs.Posts.{some_own, none_own, empty_items}
use Rattle.campaign_core.proofs.queues.next_post.Goals as goal

pub returns-then-is_empty-clause-next : goal.returns-then-is_empty-clause-next
returns-then-is_empty-clause-next c =
    none_own c.args.seat c.args.acts c.args.outcome.now (cond c.args.acts c.args.book.now None) _ _ (posted c.args.post.now) c.requires.sound c.if-not-acts.true
    (sym c.in_ok-lines.ensures ∙ empty_items _ c.in_ok-lines.lines (sym c.is_empty.ensures ∙ c.if-is_empty.true) refl)

pub returns-clause-next : goal.returns-clause-next
returns-clause-next c =
    let queued : c.post.inside.queued + c.len.result ≡ c.args.post.now.seat.queued + length c.in_ok-lines.lines =
    λ i. (c.post.view_is i).seat.queued + c.len.ensures i in
    some_own c.args.seat c.args.acts c.args.outcome.now c.args.book.now _ _ (posted c.args.post.now) (record { book = c.own_book.result; queued = c.post.inside.queued + c.len.result; taken = c.changed_taken.result; lines = c.in_ok-lines.lines }) c.own_book.ensures.own queued c.changed_taken.ensures c.in_ok-lines.ensures
