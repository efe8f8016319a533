-- Cuts of a seat's session.
use Rattle.std.specs.Prelude.{ℕ, ◌==◌, ◌&&◌, ◌||◌, Bool, false, true, List, [], ◌∷◌, take, drop}
use Rattle.seats.specs.declared.seat_state.SeatState.{SeatState}
use Rattle.seats.specs.declared.seat_state.SeatState.TheVariants.{Free, Joined, Closing}
use Rattle.campaign_law.specs.declared.entry.Entry.{Entry}
use Rattle.campaign_law.specs.declared.entry.Entry.TheVariants.{Join, Line, Leave, Taken, Cut}
use Rattle.campaign_law.specs.Outcome.{seat_of}
use Rattle.campaign_law.specs.World.{World, seat_at, step, replay}
use Rattle.campaign_law.specs.Session.{standing}

-- the seat is Joined with these pass numbers
abbrev pub is_joined_by : ℕ → ℕ → SeatState → Bool
is_joined_by reader writer Free = false
is_joined_by reader writer (Joined r w) = (r == reader) && (w == writer)
is_joined_by reader writer (Closing r w) = false

abbrev pub is_cut : Entry → Bool
is_cut (Join seat key reader writer) = false
is_cut (Line seat bytes) = false
is_cut (Leave seat drop) = false
is_cut (Taken seat count) = false
is_cut (Cut seat) = true

-- it cuts this seat, which stood so, and was Joined with these pass numbers
abbrev pub cuts : ℕ → ℕ → ℕ → SeatState → Entry → Bool
cuts seat reader writer state e = is_cut e && ((seat_of e == seat) && is_joined_by reader writer state)

-- one of these entries does
abbrev pub is_cut_by : World → List Entry → ℕ → ℕ → ℕ → Bool
is_cut_by w [] seat reader writer = false
is_cut_by w (e ∷ es) seat reader writer = cuts seat reader writer (standing (seat_at w seat)) e || is_cut_by (step w e) es seat reader writer

-- one of the history's does, from this place on
abbrev pub is_cut_since : World → List Entry → ℕ → ℕ → ℕ → ℕ → Bool
is_cut_since w h place seat reader writer = is_cut_by (replay w (take place h)) (drop place h) seat reader writer
