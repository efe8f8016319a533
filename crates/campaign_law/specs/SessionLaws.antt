-- The laws of one session of a seat, over every opening world and every history.
use Rattle.std.specs.Prelude.{◌≡◌, ◌<◌, ◌≤◌, ℕ, suc, ◌==◌, Bool, true, false, List, [], ◌∷◌, ◌++◌, ◌*◌, take, length, slice_get, Some, None, option_map, if◌then◌else◌}
use mathlib.Core.List.{IsPrefix}
use Rattle.seats.specs.Book.{line_limit}
use Rattle.seats.specs.SeatState.{is_free, is_joined}
use Rattle.seats.specs.declared.seat_state.SeatState.{SeatState}
use Rattle.campaign_law.specs.declared.entry.Entry.{Entry}
use Rattle.campaign_law.specs.declared.entry.Entry.TheVariants.{Join, Leave, Cut}
use Rattle.campaign_law.specs.Seat.{Seat, freed_seat}
use Rattle.campaign_law.specs.Outcome.{seat_of}
use Rattle.campaign_law.specs.World.{World, most_seats, seat_at, outcome_of, changed, step, replay}
use Rattle.campaign_law.specs.Law.{IsOpening}
use Rattle.campaign_law.specs.Worlds.{FitsTogether}
use Rattle.campaign_law.specs.Cuts.{cuts, is_cut_since}
use Rattle.campaign_law.specs.Session.{queued_of, session, session_at, has_ended, standing, standing_after, is_held_by, is_drop_of, closes, IsSeated, NoneRejoins, DropsNone, TakesAtMost}

-- ---- how a session begins, lasts and is left

-- a Join that isn't refused begins a session at its place
abbrev pub AcceptedJoinSeats : Type 0
AcceptedJoinSeats = (w : World) (h : List Entry) (seat : ℕ) (key : List ℕ) (reader writer : ℕ) → IsOpening w → (outcome_of (replay w h) (Join seat key reader writer)).refusal ≡ None
    → IsSeated w (h ++ Join seat key reader writer ∷ []) (length h) seat reader writer

-- the seat isn't Joined, and with `drop` it is Free
pub record IsLeft (drop : Bool) (after : SeatState) : Type 0 where
  pub closed : is_joined after ≡ false
  pub freed : drop ≡ true → is_free after ≡ true

abbrev pub LeaveCloses : Type 0
LeaveCloses = (w : World) (seat : ℕ) (drop : Bool) → IsLeft drop (standing (seat_at (step w (Leave seat drop)) seat))

-- a Joined seat becomes Free, and one in another state stays
abbrev pub cut_seat : Seat → Seat
cut_seat s = if is_joined s.book.state then freed_seat s else s

-- all that a Cut changes, but for the history
pub record IsCut (w : World) (seat : ℕ) : Type 0 where
  pub scene : (step w (Cut seat)).scene ≡ w.scene
  pub others : (p : ℕ) → (seat == p) ≡ false → seat_at (step w (Cut seat)) p ≡ seat_at w p
  pub own : seat_at (step w (Cut seat)) seat ≡ option_map cut_seat (seat_at w seat)

abbrev pub CutFrees : Type 0
CutFrees = (w : World) (h : List Entry) (seat : ℕ) → IsOpening w → IsCut (replay w h) seat

-- but by a Line, a Leave or a Cut of its own a Joined seat stays as it is
abbrev pub JoinedSeatStays : Type 0
JoinedSeatStays = (w : World) (e : Entry) (seat : ℕ) → is_joined (standing (seat_at w seat)) ≡ true → ((seat_of e == seat) ≡ true → closes e ≡ false) → standing (seat_at (step w e) seat) ≡ standing (seat_at w seat)

-- a session that lasts after so many entries, of which its Join is one
pub record Lasts (w : World) (h : List Entry) (place seat n : ℕ) : Type 0 where
  pub behind : place < n
  pub within : n ≤ length h
  pub open_ : has_ended w (take n h) place seat ≡ false

-- while a session lasts its passes hold the seat, and it is the seat's present session
pub record IsHeld (w : World) (h : List Entry) (place seat reader writer n : ℕ) : Type 0 where
  pub held : is_held_by reader writer (standing_after w (take n h) seat) ≡ true
  pub present : session w (take n h) seat ≡ session_at w (take n h) place seat

abbrev pub LastingSessionIsHeld : Type 0
LastingSessionIsHeld = (w : World) (h : List Entry) (place seat reader writer n : ℕ) → IsSeated w h place seat reader writer → Lasts w h place seat n → IsHeld w h place seat reader writer n

-- and where no later Join has its numbers, it lasts while they hold the seat
abbrev pub HeldSessionLasts : Type 0
HeldSessionLasts = (w : World) (h : List Entry) (place seat reader writer n : ℕ) → IsSeated w h place seat reader writer → NoneRejoins h place seat reader writer → place < n → n ≤ length h
    → is_held_by reader writer (standing_after w (take n h) seat) ≡ true → has_ended w (take n h) place seat ≡ false

-- ---- its lines in longer histories

-- a session in a front of the history is a prefix of it in the whole
abbrev pub SessionGrows : Type 0
SessionGrows = (w : World) (h more : List Entry) (place seat : ℕ) → place ≤ length h → IsPrefix (session_at w h place seat) (session_at w (h ++ more) place seat)

-- once its seat was Free it doesn't change
abbrev pub EndedSessionStays : Type 0
EndedSessionStays = (w : World) (h more : List Entry) (place seat : ℕ) → place ≤ length h → has_ended w h place seat ≡ true → session_at w (h ++ more) place seat ≡ session_at w h place seat

-- ---- what was taken of it where it ends

-- the session ends by this entry, which stands behind so many others and drops no lines
pub record IsLast (w : World) (h : List Entry) (place seat n : ℕ) (e : Entry) : Type 0 where
  pub behind : place < n
  pub there : slice_get h n ≡ Some e
  pub lasted : has_ended w (take n h) place seat ≡ false
  pub ended : has_ended w (take (suc n) h) place seat ≡ true
  pub kept : is_drop_of seat (standing_after w (take n h) seat) e ≡ false

-- how many of a seat's lines were taken once an entry took what it takes: a Closing seat is Free where these are all
abbrev pub taken_by : World → Entry → ℕ → Seat → ℕ
taken_by w e seat s = (changed (outcome_of w e) (seat_of e == seat) s).taken

-- they are all lines of the session
abbrev pub EndedSessionWasTaken : Type 0
EndedSessionWasTaken = (w : World) (h : List Entry) (place seat reader writer n : ℕ) (e : Entry) (s : Seat) → IsOpening w → IsSeated w h place seat reader writer → IsLast w h place seat n e → seat_at (replay w (take n h)) seat ≡ Some s
    → taken_by (replay w (take n h)) e seat s ≡ length (session_at w (take (suc n) h) place seat)

-- so one whose lines weren't dropped, and of which each Taken took so many lines at most, ended with so many at most
abbrev pub TakensBoundSession : Type 0
TakensBoundSession = (w : World) (h : List Entry) (place seat reader writer count : ℕ) → IsOpening w → IsSeated w h place seat reader writer → TakesAtMost w h place seat count → DropsNone w h place seat → has_ended w h place seat ≡ true
    → length (session_at w h place seat) ≤ count

-- ---- Cuts

-- a Cut ends the session that it finds Joined
abbrev pub CutEndsSession : Type 0
CutEndsSession = (w : World) (h : List Entry) (place seat reader writer n : ℕ) (e : Entry) → IsOpening w → Lasts w h place seat n → slice_get h n ≡ Some e → cuts seat reader writer (standing_after w (take n h) seat) e ≡ true
    → has_ended w (take (suc n) h) place seat ≡ true

-- and while a session isn't cut, nothing but a Leave drops its lines
abbrev pub UncutDropsByLeave : Type 0
UncutDropsByLeave = (w : World) (h : List Entry) (place seat reader writer n : ℕ) (e : Entry) → IsSeated w h place seat reader writer → Lasts w h place seat n → slice_get h n ≡ Some e → is_cut_since w h place seat reader writer ≡ false
    → is_drop_of seat (standing_after w (take n h) seat) e ≡ true → e ≡ Leave seat true

-- ---- how many lines it has

-- an entry queues for a seat at most a reply, a message and a line on the view
abbrev pub lines_per_entry : ℕ
lines_per_entry = 3

abbrev pub EntryQueuesFew : Type 0
EntryQueuesFew = (w : World) (e : Entry) (seat : ℕ) → length (queued_of w e seat) ≤ lines_per_entry

-- and it queues any only where it counts as a line of its own seat, of which each seat has so many at most
abbrev pub session_limit : ℕ
session_limit = lines_per_entry * (most_seats * line_limit)

-- so no more lines than these are queued for a seat since its Join
abbrev pub QueuedIsBounded : Type 0
QueuedIsBounded = (w : World) (h : List Entry) (seat : ℕ) (s : Seat) → IsOpening w → FitsTogether w → seat_at (replay w h) seat ≡ Some s → s.queued ≤ session_limit
