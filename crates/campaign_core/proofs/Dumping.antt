-- The world of a running campaign, as a campaign text may hold it.
use Rattle.std.proofs.Common.{◌≡◌, List, [], ◌∷◌, map, refl, sym, ap, ◌∙◌, subst}
use Rattle.std.specs.Prelude.{Option}
use Rattle.seats.specs.Book.{Book}
use Rattle.view_keep.specs.Kept.{Kept}
use Rattle.world.specs.World.{World as Opened, IsWorld}
use Rattle.campaign_writing.specs.Written.{IsWritten}
use Rattle.campaign_law.specs.declared.entry.Entry.{Entry}
use Rattle.campaign_law.specs.Seat.{Seat}
use Rattle.campaign_law.specs.State.{Post, world_in}
use Rattle.campaign_law.specs.World.{World, replay}
use Rattle.campaign_law.specs.Worlds.{opened_of}
use Rattle.campaign_law.proofs.WrittenWorlds.{written_always}
use Rattle.campaign_core.specs.declared.campaign.Staged.{Staged}
use Rattle.campaign_core.specs.CutList.{Ledger}
use Rattle.campaign_core.specs.Places.{Place, Standing, posted, law, world_at}
use Rattle.campaign_core.specs.Running.{IsRunning}
use Rattle.campaign_core.proofs.Running.{world_now, running_fits}

abbrev pub book_of : Place → Book
book_of place = place.seat.book

books_of : (places : List Place) → map book_of places ≡ map (λ (s : Seat). s.book) (map (λ (post : Post). post.seat) (map posted places))
books_of [] = refl
books_of (p ∷ places) = ap (λ books. p.seat.book ∷ books) (books_of places)

-- the scene and the books that stand here
abbrev pub standing : Standing → Opened
standing s = record { scene = s.scene; books = map book_of s.posts }

standing_is : (s : Standing) → standing s ≡ opened_of (world_in (law s))
standing_is s = ap (λ books. record { scene = s.scene; books = books }) (books_of s.posts)

books_at : (places : List Place) → map book_of places ≡ map (λ (s : Seat). s.book) (map (λ (p : Place). p.seat) places)
books_at [] = refl
books_at (p ∷ places) = ap (λ books. p.seat.book ∷ books) (books_at places)

pub standing_at : (s : Standing) → standing s ≡ opened_of (world_at s)
standing_at s = ap (λ books. record { scene = s.scene; books = books }) (books_at s.posts)

module _ (origin : World) (h : List Entry) (ledger : Ledger) (s : Standing) (kept : Kept) (stage : Option Staged) (r : IsRunning origin h ledger s kept stage) where
  pub standing_fits : IsWorld (standing s)
  standing_fits = subst IsWorld (sym (standing_is s)) (running_fits origin h ledger s kept stage r)

  pub standing_now : standing s ≡ opened_of (replay origin h)
  standing_now = standing_is s ∙ ap opened_of (world_now origin h ledger s kept stage r)

  -- it is one that the campaign text takes
  pub now_written : IsWritten (opened_of (replay origin h))
  now_written = written_always origin h r.written
