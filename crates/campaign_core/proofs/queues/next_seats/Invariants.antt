use Rattle.std.proofs.Common.{◌≡◌, ◌++◌, drop, length, map, eqb}
use Rattle.player_view.specs.View.{view_of}
use Rattle.campaign_law.specs.World.{mapped_from}
use Rattle.campaign_law.specs.State.{post_by}
use Rattle.campaign_core.specs.Places.{posted}
use Rattle.campaign_core.specs.Steps.{with_book}
use Rattle.campaign_core.specs.Shown.{made_view}
use Rattle.campaign_core.proofs.Posts.{AreMade, book_left}
use Rattle.campaign_core.proofs.queues.next_seats.Given as goal

-- so many are made; of the views, what is made and what is left make the whole
abbrev pub invariant-loop-post : goal.invariant-loop-post
invariant-loop-post l = record {
  place : l.number ≡ l.post-index;
  book : l.book ≡ book_left l.actor l.number l.fn.book;
  count : length l.next.nexts.items ≡ l.post-index;
  made : AreMade (λ seat post. post_by seat (eqb l.actor seat) (with_book l.outcome l.fn.book) (view_of l.glances.before.now seat) (view_of l.glances.after.now seat) post) l.next.nexts.items l.post-index (map posted l.posts);
  views : l.next.views.items ++ mapped_from (λ seat p. made_view l.glances.reach (eqb l.actor seat) l.outcome l.glances.after.now seat p.seat) l.number (drop l.post-index l.posts) ≡ mapped_from (λ seat p. made_view l.glances.reach (eqb l.actor seat) l.outcome l.glances.after.now seat p.seat) 0 l.posts;
}
