-- What a session did, in a history that both of its passes know a front of.
use Rattle.std.specs.Prelude.{◌≡◌, ◌≢◌, ◌<◌, ◌≤◌, ◌==◌, ◌⊎◌, ℕ, Bool, true, false, All, Contains, List, [], ◌∷◌, ◌++◌, take, slice_get, Option, Some}
use mathlib.Core.List.{IsPrefix}
use Rattle.line_io.specs.Reader.{bytes_to_come}
use Rattle.line_io.specs.ReaderState.{ReaderState}
use Rattle.line_io.specs.Told.{WhereTold}
use Rattle.campaign_law.specs.declared.entry.Entry.{Entry}
use Rattle.campaign_law.specs.declared.entry.Entry.TheVariants.{Join, Line, Leave, Taken, Cut}
use Rattle.campaign_law.specs.World.{World}
use Rattle.campaign_law.specs.Law.{bytes_of}
use Rattle.campaign_law.specs.Player.{opening, trace, machine}
use Rattle.campaign_law.specs.Session.{NoneRejoins}
use Rattle.session.specs.declared.hold.Hold.{Hold}
use Rattle.session.specs.declared.sitting.Ended.{Ended}
use Rattle.session.specs.declared.sitting.Ended.TheVariants as ends
use Rattle.session.specs.declared.input.Stop.TheVariants.{End, TooLong, ReadFault}
use Rattle.session.specs.Inputs.{Stops, CamePast}
use Rattle.session.specs.Held.{is_cut, is_over, lines_of}
use Rattle.session.specs.Own.{StandsAt}
use Rattle.session.specs.Heard.{IsReaders, lines_at, CameBut, AreFirst, IsByeAt, IsSpentAt, IsUnspent, IsClosedBy, CutsBehindLines}
use Rattle.session.specs.Written.{HasLines, IsWriters}
use Rattle.session.specs.Ends.{is_whole}
use Rattle.session.specs.Among.{AreAmong}

-- a Line, a Leave or a Taken of the seat
abbrev pub is_of_session : ℕ → Entry → Bool
is_of_session seat (Join s key reader writer) = false
is_of_session seat (Line s bytes) = s == seat
is_of_session seat (Leave s drop) = s == seat
is_of_session seat (Taken s count) = s == seat
is_of_session seat (Cut s) = false

-- From the session's Join until its seat is Free each Line, Leave and Taken of the seat is its own, and nobody joins the seat with its numbers again
pub record IsUndisturbed (w : World) (h : List Entry) (own : List ℕ) (hold : Hold) : Type 0 where
  pub own_alone : (k : ℕ) (e : Entry) → hold.place < k → is_over w (take k h) hold ≡ false → slice_get h k ≡ Some e → is_of_session hold.seat e ≡ true → Contains own k
  pub once : NoneRejoins h hold.place hold.seat hold.reader hold.writer

-- of the session's lines this text was written, and so many of them whole
pub record IsFront (lines : List (List ℕ)) (count : ℕ) (text : List ℕ) : Type 0 where
  pub prefix : IsPrefix text (bytes_of lines)
  pub whole : IsPrefix (bytes_of (take count lines)) text

-- why an accepted session ended so, whose reading half entered at these places
abbrev pub IsCause : Ended → World → List Entry → Hold → List ℕ → ReaderState → Option (List ℕ) → Type 0
IsCause ends.Left w h hold readers reader left = ((k : ℕ) × Contains readers k × IsByeAt h hold.seat k) ⊎ Stops End reader left
IsCause (ends.Refused refusal) w h hold readers reader left = ⊥
IsCause ends.TooLong w h hold readers reader left = Stops TooLong reader left
IsCause ends.Spent w h hold readers reader left = (k : ℕ) × Contains (hold.place ∷ readers) k × IsSpentAt w h hold.seat k
IsCause ends.Cut w h hold readers reader left = is_cut w h hold ≡ true
IsCause ends.ReadFault w h hold readers reader left = Stops ReadFault reader left
IsCause ends.WriteFault w h hold readers reader left = Unit {0}
IsCause ends.Memory w h hold readers reader left = Unit {0}

-- the Lines at these places are all lines that came of the text, up to one that closed the seat, where the others behind it weren't entered
pub record AreAll (w : World) (h : List Entry) (hold : Hold) (readers : List ℕ) (text rest : Option (List ℕ)) : Type 0 where
  pub hand : List (List ℕ)
  pub came : WhereTold text rest (CameBut hand (lines_at h readers))
  pub closed : hand ≢ [] → IsClosedBy w h hold readers

-- An accepted session, behind its Join, whose passes got these own places. Its input had this text to come, and the reader and the source have the rest
pub record IsServed (w : World) (h : List Entry) (hold : Hold) (readers writers : List ℕ) (ended : Ended) (text : Option (List ℕ)) (reader : ReaderState) (left before after : Option (List ℕ)) : Type 0 where
  pub count : ℕ
  pub output : List ℕ
  -- no Taken says more than the number of lines that were written whole
  pub has : HasLines output count before after
  -- the reading pass entered Lines, a Leave and Cuts alone, and the writing pass Takens and a Leave that drops lines
  pub heard : All (StandsAt (IsReaders w hold) h) readers
  pub told : All (StandsAt (IsWriters w hold count) h) writers
  -- right behind each Line stand Cuts of the seats for which too much waits, until there is none
  pub cuts : CutsBehindLines w h readers
  -- the Lines are the first lines that came, each once and in order
  pub lines : AreFirst (lines_at h readers) text
  -- no other line that came was longer than one may be
  pub past : CamePast (lines_at h readers) text (bytes_to_come reader left)
  pub over : is_over w h hold ≡ true
  pub written : IsUndisturbed w h (readers ++ writers) hold → IsFront (lines_of w h hold) count output
  pub whole : IsUndisturbed w h (readers ++ writers) hold → is_whole ended ≡ true → output ≡ bytes_of (lines_of w h hold)
  -- a player's session has none but lines that the player machine prints, which holds no world
  pub player : 1 ≤ hold.seat → AreAmong (lines_of w h hold) (machine (opening w hold.seat) (trace w h hold.seat))
  -- and all that came, up to one that closed the seat
  pub all_read : IsUndisturbed w h (readers ++ writers) hold → is_whole ended ≡ true → AreAll w h hold readers text (bytes_to_come reader left)
  pub cause : IsCause ended w h hold readers reader left
  -- and where it just left, neither its Join nor a line of it was the seat's last
  pub unspent : ended ≡ ends.Left → All (StandsAt (IsUnspent w hold) h) (hold.place ∷ readers)
