-- A seat to which an entry does nothing: another one acts, all see what they saw, and nothing is said.
use Rattle.std.proofs.Common.{◌≡◌, ℕ, Bool, true, false, ◌||◌, ◌++◌, ◌∙◌, [], Some, refl, sym, ap}
use Rattle.std.specs.Prelude.{Option, not}
use Rattle.seats.specs.Book.{Book}
use Rattle.seats.specs.SeatState.{is_joined}
use Rattle.views.specs.declared.view.View.{View}
use Rattle.view_marks.specs.Marks.{marks}
use Rattle.world.specs.Scene.{Scene}
use Rattle.player_view.specs.View.{view_of}
use Rattle.campaign_law.specs.Seat.{Seat}
use Rattle.campaign_law.specs.Outcome.{Outcome}
use Rattle.campaign_law.specs.State.{Post, post_by}
use Rattle.campaign_law.specs.Views.{change_line}
use Rattle.campaign_law.specs.World.{addressed, lines_if_present, queued_lines, some_to_list}
use Rattle.campaign_core.specs.declared.reach.Reach.{Reach}
use Rattle.campaign_core.specs.declared.reach.Reach.TheVariants.{Nobody}
use Rattle.campaign_core.specs.Shown.{AreStill, reaches}
use Rattle.campaign_core.specs.Sound.{IsSound}
use Rattle.campaign_core.specs.Steps.{with_book}
use Rattle.campaign_core.proofs.Lines.{same_lines}
use Rattle.campaign_core.proofs.Posts.{none_own}

idle_lines : (seat : ℕ) (s : Seat) (o : Outcome) (v v' : View) → o.messages ≡ [] → v' ≡ v → queued_lines seat false (Some s) o v v' ≡ []
unfolding addressed
idle_lines seat s o v v' silent same = by (is_joined s.book.state || false)
  where
    by : (present : Bool) → lines_if_present seat false o v v' present ≡ []
    by true = ap (λ ms. addressed seat ms ++ some_to_list (change_line v v')) silent ∙ ap (λ w. some_to_list (change_line v w)) same ∙ sym (same_lines v)
    by false = refl

pub idle_post : (seat : ℕ) (acts : Bool) (reach : Reach) (o : Outcome) (book : Option Book) (before after : Scene) (post : Post) → IsSound post → AreStill reach o before after
    → acts ≡ false → reach ≡ Nobody → o.messages ≡ [] → post ≡ post_by seat acts (with_book o book) (view_of before seat) (view_of after seat) post
idle_post seat true reach o book before after post sound still idle stays silent = cc
idle_post seat false reach o book before after post sound still idle stays silent =
    none_own seat false o book (view_of before seat) (view_of after seat) post sound idle
    (idle_lines seat post.seat o (view_of before seat) (view_of after seat) silent (still.each seat (ap (λ r. not (reaches r seat) || not (marks o.done seat)) stays)))
