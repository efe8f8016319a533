-- What a pass entered, and what others entered for the seat of a session.
use Rattle.std.specs.Prelude.{◌≡◌, ◌<◌, ℕ, Bool, true, false, ◌==◌, ◌&&◌, All, Contains, List, ◌++◌, take, slice_get, Some}
use mathlib.Core.List.{IsPrefix}
use Rattle.campaign_law.specs.declared.entry.Entry.{Entry}
use Rattle.campaign_law.specs.declared.entry.Entry.TheVariants.{Join, Line, Leave, Taken, Cut}
use Rattle.campaign_law.specs.World.{World}
use Rattle.campaign_law.specs.Session.{NoneRejoins}
use Rattle.turn_lock.specs.Pass.{PassState}
use Rattle.session.specs.declared.hold.Hold.{Hold}
use Rattle.session.specs.Held.{is_over}

-- an entry of the history of which this is true, with the history before it
pub record StandsAt (rule : List Entry → Entry → Type 0) (h : List Entry) (place : ℕ) : Type 0 where
  pub entry : Entry
  pub there : slice_get h place ≡ Some entry
  pub lawful : rule (take place h) entry

-- the pass has its number, and its front begins with what it was
pub record Grew {Entry Origin : Type 0} (old new : PassState Entry Origin) : Type 0 where
  pub front : IsPrefix old.front new.front
  pub number : new.number ≡ old.number

-- the pass got these own places, where entries by the rule stand
pub record Got (rule : List Entry → Entry → Type 0) {Origin : Type 0} (old new : PassState Entry Origin) (more : List ℕ) : Type 0 where
  pub front : IsPrefix old.front new.front
  pub number : new.number ≡ old.number
  pub own : new.own ≡ old.own ++ more
  pub each : All (StandsAt rule new.front) more

-- a Taken of the seat, or a Leave that drops its lines
abbrev pub takes_from : ℕ → Entry → Bool
takes_from seat (Join s key reader writer) = false
takes_from seat (Line s bytes) = false
takes_from seat (Leave s drop) = drop && (s == seat)
takes_from seat (Taken s count) = s == seat
takes_from seat (Cut s) = false

-- From the Join until the seat is Free nobody else takes or drops its lines, and nobody else joins with its numbers
pub record IsAlone (w : World) (h : List Entry) (own : List ℕ) (hold : Hold) : Type 0 where
  pub takes : (k : ℕ) (e : Entry) → hold.place < k → is_over w (take k h) hold ≡ false → slice_get h k ≡ Some e → takes_from hold.seat e ≡ true → Contains own k
  pub once : NoneRejoins h hold.place hold.seat hold.reader hold.writer
