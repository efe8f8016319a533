-- The list of cuts that a running campaign keeps.
use Rattle.std.specs.Prelude.{◌≡◌, ℕ, ◌==◌, ◌&&◌, nat_le, Bool, List, [], ◌∷◌, if◌then◌else◌}
use Rattle.std.specs.List.{list_any}
use Rattle.seats.specs.declared.seat_state.SeatState.{SeatState}
use Rattle.seats.specs.declared.seat_state.SeatState.TheVariants.{Free, Joined, Closing}
use Rattle.campaign_law.specs.declared.entry.Entry.{Entry}
use Rattle.campaign_law.specs.Messages.{Message}
use Rattle.campaign_law.specs.Outcome.{seat_of}
use Rattle.campaign_law.specs.World.{World, seat_at}
use Rattle.campaign_law.specs.Session.{standing}
use Rattle.campaign_law.specs.Cuts.{is_cut, is_cut_since}
use Rattle.campaign_core.specs.declared.cuts.SeatCut.{SeatCut}

-- it stands at this place of the history or behind it, and cut this seat, Joined with these pass numbers
abbrev pub is_since : ℕ → ℕ → ℕ → ℕ → SeatCut → Bool
is_since place seat reader writer cut = nat_le place cut.place && ((cut.seat == seat) && ((cut.reader == reader) && (cut.writer == writer)))

abbrev pub any_since : ℕ → ℕ → ℕ → ℕ → List SeatCut → Bool
any_since place seat reader writer cuts = list_any (is_since place seat reader writer) cuts

-- they are the history's Cuts of Joined seats
pub record AreCuts (w : World) (h : List Entry) (cuts : List SeatCut) : Type 0 where
  pub since : (place seat reader writer : ℕ) → any_since place seat reader writer cuts ≡ is_cut_since w h place seat reader writer

-- ---- an entry more

-- a Cut at this place of the history of a seat that stands so
abbrev pub cut_of : ℕ → ℕ → SeatState → List SeatCut
cut_of place seat Free = []
cut_of place seat (Joined reader writer) = record { place = place; seat = seat; reader = reader; writer = writer } ∷ []
cut_of place seat (Closing reader writer) = []

-- what an entry at this place adds to the list
abbrev pub cut_by : World → ℕ → Entry → List SeatCut
cut_by w place e = if is_cut e then cut_of place (seat_of e) (standing (seat_at w (seat_of e))) else []

-- the list, how many places are left in the history and in the list, and what the last entry said
pub record Ledger : Type 0 where
  pub cuts : List SeatCut
  pub places : ℕ
  pub cut_places : ℕ
  pub said : List Message
