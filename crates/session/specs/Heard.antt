-- What the reading half read and entered.
use Rattle.std.specs.Prelude.{◌≡◌, ◌≢◌, ◌==◌, ◌⊎◌, ℕ, Bool, true, false, List, [], ◌∷◌, ◌++◌, ◌&&◌, not, take, suc, map, if◌then◌else◌, All, Contains, slice_get, Option, Some, None, IfSome, Ok}
use mathlib.Core.List.{IsPrefix}
use Rattle.line_io.specs.Lines.{lines_of as text_lines}
use Rattle.line_io.specs.Told.{WhereTold}
use Rattle.campaign_law.specs.declared.entry.Entry.{Entry}
use Rattle.campaign_law.specs.declared.entry.Entry.TheVariants.{Join, Line, Leave, Taken, Cut}
use Rattle.campaign_law.specs.World.{World, seat_at, replay}
use Rattle.campaign_core.specs.Over.{over_of}
use Rattle.turn_lock.specs.Pass.{PassState, places}
use Rattle.session.specs.declared.hold.Hold.{Hold}
use Rattle.session.specs.declared.hearing.ReadEnd.{ReadEnd}
use Rattle.session.specs.declared.hearing.ReadEnd.TheVariants.{Bye, Spent, Stopped}
use Rattle.session.specs.declared.hearing.ReadEnd.TheVariants as reads
use Rattle.session.specs.declared.input.Stop.{Stop}
use Rattle.session.specs.declared.input.Stop.TheVariants.{Memory}
use Rattle.session.specs.Inputs.{is_memory, IsShort, CamePast}
use Rattle.session.specs.Held.{is_held, is_read, is_cut}
use Rattle.session.specs.Spoken.{is_spent, AreOver}
use Rattle.command_json.specs.declared.command.Command.{Command}
use Rattle.command_json.specs.Commands.{command_of}
use Rattle.campaign_law.specs.Outcome.{is_bye}
use Rattle.session.specs.Own.{StandsAt, Got}

-- what the reading half may enter: Lines of the seat of at most 4,096 bytes while its passes hold it as Joined, a Leave while they hold it, and Cuts of
-- seats for which too much waits
abbrev pub IsReaders : World → Hold → List Entry → Entry → Type 0
IsReaders w hold before (Join seat key reader writer) = ⊥
IsReaders w hold before (Line seat bytes) = (seat ≡ hold.seat) × IsShort bytes × (is_read w before hold ≡ true)
IsReaders w hold before (Leave seat drop) = (seat ≡ hold.seat) × (drop ≡ false) × (is_held w before hold ≡ true)
IsReaders w hold before (Taken seat count) = ⊥
IsReaders w hold before (Cut seat) = over_of w before ≡ Some seat

abbrev pub line_in : Option Entry → List (List ℕ)
line_in None = []
line_in (Some (Join seat key reader writer)) = []
line_in (Some (Line seat bytes)) = bytes ∷ []
line_in (Some (Leave seat drop)) = []
line_in (Some (Taken seat count)) = []
line_in (Some (Cut seat)) = []

-- the bytes of the Lines at these places of a history
abbrev pub lines_at : List Entry → List ℕ → List (List ℕ)
lines_at h [] = []
lines_at h (place ∷ places) = line_in (slice_get h place) ++ lines_at h places

-- of a text these lines came, and the rest is to come
abbrev pub Came : List (List ℕ) → List ℕ → List ℕ → Type 0
Came lines text rest = text_lines text ≡ lines ++ text_lines rest

-- of which the lines in hand, the last ones, weren't entered
abbrev pub CameBut : List (List ℕ) → List (List ℕ) → List ℕ → List ℕ → Type 0
CameBut hand lines text rest = Came (lines ++ hand) text rest

-- they are the first lines of the text, where it is told
abbrev pub AreFirst : List (List ℕ) → Option (List ℕ) → Type 0
AreFirst lines text = IfSome text (λ text. IsPrefix lines (text_lines text))

-- the session's passes hold the seat as Joined behind the entry, unless it is a Cut
abbrev pub IsReadBehind : World → Hold → List Entry → Entry → Type 0
IsReadBehind w hold before (Join seat key reader writer) = is_read w (before ++ Join seat key reader writer ∷ []) hold ≡ true
IsReadBehind w hold before (Line seat bytes) = is_read w (before ++ Line seat bytes ∷ []) hold ≡ true
IsReadBehind w hold before (Leave seat drop) = is_read w (before ++ Leave seat drop ∷ []) hold ≡ true
IsReadBehind w hold before (Taken seat count) = is_read w (before ++ Taken seat count ∷ []) hold ≡ true
IsReadBehind w hold before (Cut seat) = Unit {0}

-- a line that the seat reads as a bye
pub record IsBye (seat : ℕ) (bytes : List ℕ) : Type 0 where
  pub command : Command
  pub reads : command_of bytes (seat == 0) ≡ Ok command
  pub bye : is_bye command ≡ true

-- such a line of the seat stands at the place
pub record IsByeAt (h : List Entry) (seat place : ℕ) : Type 0 where
  pub bytes : List ℕ
  pub there : slice_get h place ≡ Some (Line seat bytes)
  pub bye : IsBye seat bytes

-- behind the entry at the place the seat has had all its lines
abbrev pub IsSpentAt : World → List Entry → ℕ → ℕ → Type 0
IsSpentAt w h seat place = is_spent (seat_at (replay w (take (suc place) h)) seat) ≡ true

-- a Join or a Line, behind which the seat hasn't had all its lines
abbrev pub IsUnspent : World → Hold → List Entry → Entry → Type 0
IsUnspent w hold before (Join seat key reader writer) = is_spent (seat_at (replay w (before ++ Join seat key reader writer ∷ [])) hold.seat) ≡ false
IsUnspent w hold before (Line seat bytes) = is_spent (seat_at (replay w (before ++ Line seat bytes ∷ [])) hold.seat) ≡ false
IsUnspent w hold before (Leave seat drop) = Unit {0}
IsUnspent w hold before (Taken seat count) = Unit {0}
IsUnspent w hold before (Cut seat) = Unit {0}

-- what closed the seat, where the reading half entered at these places: a bye, the seat's last line, which may be the Join, or a Cut
abbrev pub ClosedBy : ReadEnd → World → List Entry → Hold → List ℕ → Type 0
ClosedBy Bye w h hold own = (k : ℕ) × Contains own k × IsByeAt h hold.seat k
ClosedBy Spent w h hold own = (k : ℕ) × Contains (hold.place ∷ own) k × IsSpentAt w h hold.seat k
ClosedBy reads.Cut w h hold own = is_cut w h hold ≡ true
ClosedBy (Stopped stop) w h hold own = Unit {0}

-- no further line was read, and the session was cut or not: that is told, unless memory was wanting
abbrev pub stopped : Bool → Stop → ReadEnd
stopped cut stop = if cut && not (is_memory stop) then reads.Cut else Stopped stop

-- right behind this place stand Cuts of the seats for which too much waits, until there is none, each at an own place
pub record AreCutBehind (w : World) (h : List Entry) (own : List ℕ) (place : ℕ) : Type 0 where
  pub seats : List ℕ
  pub over : AreOver w (take (suc place) h) seats
  pub none : over_of w (take (suc place) h ++ map Cut seats) ≡ None
  pub there : IsPrefix (take (suc place) h ++ map Cut seats) h
  pub mine : All (Contains own) (places (suc place) (map Cut seats))

-- so where a Line stands at the place
abbrev pub CutsBehindLine : World → List Entry → List ℕ → ℕ → Type 0
CutsBehindLine w h own place = (seat : ℕ) (bytes : List ℕ) → slice_get h place ≡ Some (Line seat bytes) → AreCutBehind w h own place

-- and so at each of these places
abbrev pub CutsBehindLines : World → List Entry → List ℕ → Type 0
CutsBehindLines w h own = All (CutsBehindLine w h own) own

-- a line at one of these places closed the seat: a bye, or the seat's last
abbrev pub IsClosedBy : World → List Entry → Hold → List ℕ → Type 0
IsClosedBy w h hold own = (k : ℕ) × Contains own k × (IsByeAt h hold.seat k ⊎ IsSpentAt w h hold.seat k)

-- between two turns of the reading half, which began with the pass p when this text was to come: all lines that came were entered but those in hand
pub record IsReading (w : World) (hold : Hold) (p q : PassState Entry World) (hand : List (List ℕ)) (text rest : Option (List ℕ)) : Type 0 where
  pub more : List ℕ
  pub got : Got (IsReaders w hold) p q more
  pub came : WhereTold text rest (CameBut hand (lines_at q.front more))
  pub short : All IsShort hand
  pub kept : All (StandsAt (IsReadBehind w hold) q.front) more
  pub unspent : All (StandsAt (IsUnspent w hold) q.front) more
  pub cuts : CutsBehindLines w q.front more

-- The reading half ended. Where it was gone, a line found that the passes no longer held the seat as Joined
pub record HasHeard (w : World) (hold : Hold) (p q : PassState Entry World) (end : ReadEnd) (gone : Bool) (text rest : Option (List ℕ)) : Type 0 where
  pub more : List ℕ
  pub got : Got (IsReaders w hold) p q more
  -- its lines are the first ones of the text, and all that came, but those in hand behind one that closed the seat
  pub first : AreFirst (lines_at q.front more) text
  -- no further line that came was longer than one may be
  pub past : CamePast (lines_at q.front more) text rest
  pub hand : List (List ℕ)
  pub behind : hand ≢ [] → IsClosedBy w q.front hold more
  pub all : gone ≡ false → end ≢ reads.Cut → end ≢ Stopped Memory → WhereTold text rest (CameBut hand (lines_at q.front more))
  -- the seat isn't Joined by its passes any more
  pub closed : is_read w q.front hold ≡ false
  -- where it was gone, none of its own entries closed the seat
  pub kept : gone ≡ true → All (StandsAt (IsReadBehind w hold) q.front) more
  pub cause : ClosedBy end w q.front hold more
  -- and where it tells no cut and no want of memory there was none
  pub uncut : end ≢ reads.Cut → end ≢ Stopped Memory → is_cut w q.front hold ≡ false
  pub cuts : CutsBehindLines w q.front more
  -- and no other of its lines was the seat's last
  pub unspent : end ≢ Spent → end ≢ reads.Cut → All (StandsAt (IsUnspent w hold) q.front) more
