use Rattle.std.proofs.Common.{◌≡◌, map, take}
use Rattle.campaign_core.specs.Places.{Place}
use Rattle.campaign_core.proofs.dumps.copied_books.Given as goal

abbrev pub invariant-loop-post : goal.invariant-loop-post
invariant-loop-post l = l.books.items ≡ map (λ (p : Place). p.seat.book) (take l.post-index l.posts)
