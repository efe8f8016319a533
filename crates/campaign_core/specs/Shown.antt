-- The views that are kept, and those that an entry makes.
use Rattle.std.specs.Prelude.{◌≡◌, ℕ, ◌==◌, ◌&&◌, ◌||◌, Bool, true, false, not, if◌then◌else◌, List, length, Option, Some, None, IfSome, is_some, option_map, slice_get}
use Rattle.seats.specs.SeatState.{is_joined}
use Rattle.command_effects.specs.Settle.{is_among}
use Rattle.views.specs.declared.view.View.{View}
use Rattle.view_keep.specs.declared.keep.KeptView.{KeptView}
use Rattle.view_keep.specs.Kept.{view_at}
use Rattle.view_change.specs.Change.{change_of}
use Rattle.view_marks.specs.declared.placed.Placed.{Placed}
use Rattle.view_marks.specs.Placed.{placed_in}
use Rattle.view_marks.specs.Marks.{leaves_letters, marks}
use Rattle.world.specs.Scene.{Scene}
use Rattle.player_view.specs.View.{is_gm, view_of}
use Rattle.player_view.specs.Asked.{Asked}
use Rattle.player_view.specs.Lettered.{LettersStay}
use Rattle.view_rules.specs.Asking.{asked_by}
use Rattle.campaign_law.specs.Seat.{Seat, was_joined}
use Rattle.campaign_law.specs.Outcome.{Outcome}
use Rattle.campaign_law.specs.World.{World, seat_at}
use Rattle.campaign_core.specs.Placing.{placed_change}
use Rattle.campaign_core.specs.declared.reach.Reach.{Reach}
use Rattle.campaign_core.specs.declared.reach.Reach.TheVariants.{Nobody, Onlookers}

-- the kept view of a seat that is Joined is what it sees
abbrev pub IsShown : Scene → List KeptView → ℕ → Option Seat → Type 0
IsShown scene views seat before = was_joined before ≡ true → view_at seat views ≡ Some (view_of scene seat)

-- of each seat
pub record AreShown (w : World) (views : List KeptView) : Type 0 where
  pub each : (seat : ℕ) → IsShown w.scene views seat (seat_at w seat)

-- what answers the rules of a seat that is shown this, and for the game master the whole scene
abbrev pub answers_by : World → ℕ → View → Asked
answers_by w seat v = asked_by (length w.seats) v (if is_gm seat then Some w.scene else None)

-- what a seat is shown that is Joined
abbrev pub kept_view : World → ℕ → Option View
kept_view w seat = if was_joined (seat_at w seat) then Some (view_of w.scene seat) else None

-- the view of a seat, where it isn't known to be the kept one
abbrev pub new_view : Bool → Scene → ℕ → Option View
new_view kept scene seat = if kept then None else Some (view_of scene seat)

-- what changed reaches the seat
abbrev pub reaches : Reach → ℕ → Bool
reaches Nobody seat = false
reaches (Onlookers players placed) seat = is_gm seat || is_among players seat

-- where the token stands that is all that changed in the game master's view, where that is known
abbrev pub placed_reaching : Reach → Option Placed
placed_reaching Nobody = None
placed_reaching (Onlookers players placed) = placed

-- the seat's view is known to stay: what changed doesn't reach the seat, or what was done doesn't mark it
abbrev pub is_kept : Reach → Outcome → ℕ → Bool
is_kept reach o seat = not (reaches reach seat) || not (marks o.done seat)

-- the same for the seat's view, where no full line is due to it
abbrev pub placed_for : Reach → Outcome → ℕ → Option Placed
placed_for reach o seat = if is_gm seat && not o.full then placed_reaching reach else None

-- the view that an entry makes: of a seat that is Joined, where its view isn't known to stay but for where a token stands; and of one that joins
abbrev pub made_view : Reach → Bool → Outcome → Scene → ℕ → Seat → Option View
made_view reach acts o scene seat s = if is_joined s.book.state then new_view (is_kept reach o seat || is_some (placed_for reach o seat)) scene seat else new_view (not (acts && o.joins)) scene seat

-- the view that was made, else the kept one
abbrev pub made_or : Option View → Option View → Option View
made_or None kept = kept
made_or (Some view) kept = Some view

abbrev pub view_made_in : Option (Option View) → Option View
view_made_in None = None
view_made_in (Some made) = made

-- the kept view of the seat, with the token there, where it is the game master's
abbrev pub placed_if : Option Placed → ℕ → Option View → Option View
placed_if None seat kept = kept
placed_if (Some placed) seat kept = if 0 == seat then option_map (placed_in placed) kept else kept

-- the view that stands for a seat once the token is placed and these are put
abbrev pub view_then : Option Placed → List (Option View) → List KeptView → ℕ → Option View
view_then placed made kept seat = made_or (view_made_in (slice_get made seat)) (placed_if placed seat (view_at seat kept))

-- the second view is the first with the token there, and so is the change between them
pub record IsPlacing (placed : Placed) (before after : View) : Type 0 where
  pub view : after ≡ placed_in placed before
  pub change : change_of before after ≡ placed_change placed before

-- each seat whose view is known to stay sees after the entry what it saw; where what was done leaves the letters of
-- the maps, they stay; and where a token is placed, that is all that changed in the game master's view
pub record AreStill (reach : Reach) (o : Outcome) (before after : Scene) : Type 0 where
  pub each : (seat : ℕ) → is_kept reach o seat ≡ true → view_of after seat ≡ view_of before seat
  pub letters : leaves_letters o.done ≡ true → LettersStay before after
  pub placed : IfSome (placed_reaching reach) (λ p. IsPlacing p (view_of before 0) (view_of after 0))
