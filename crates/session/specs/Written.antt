-- What the writing half wrote.
use Rattle.std.specs.Prelude.{◌≡◌, ◌<◌, ◌≤◌, ◌==◌, ℕ, true, false, All, List, [], ◌++◌, ◌⊎◌, Option, length, take, drop, filter}
use Rattle.std.specs.Io.KnownBytes.{append_known}
use mathlib.Core.List.{IsPrefix}
use Rattle.campaign_law.specs.declared.entry.Entry.{Entry}
use Rattle.campaign_law.specs.declared.entry.Entry.TheVariants.{Join, Line, Leave, Taken, Cut}
use Rattle.campaign_law.specs.World.{World}
use Rattle.campaign_law.specs.Law.{bytes_of}
use Rattle.session.specs.declared.hold.Hold.{Hold}
use Rattle.session.specs.declared.writing.Wrote.{Wrote}
use Rattle.session.specs.declared.writing.Wrote.TheVariants.{All as AllWritten, Memory, WriteFault}
use Rattle.session.specs.declared.writing.Wrote.TheVariants as writes
use Rattle.session.specs.Held.{is_held, is_cut, lines_of, HasJoined}
use Rattle.turn_lock.specs.Pass.{PassState}
use Rattle.session.specs.Own.{StandsAt, Got, IsAlone}

-- what the writing half may enter, where so many lines were written whole: a Taken of no more of them, or a Leave that drops the rest. Its passes hold the seat then
abbrev pub IsWriters : World → Hold → ℕ → List Entry → Entry → Type 0
IsWriters w hold count before (Join seat key reader writer) = ⊥
IsWriters w hold count before (Line seat bytes) = ⊥
IsWriters w hold count before (Leave seat drop) = (seat ≡ hold.seat) × (drop ≡ true) × (is_held w before hold ≡ true)
IsWriters w hold count before (Taken seat taken) = (seat ≡ hold.seat) × (taken ≤ count) × (is_held w before hold ≡ true)
IsWriters w hold count before (Cut seat) = ⊥

-- a Taken of no more lines than these, while its passes hold the seat
abbrev pub IsTakenOf : World → Hold → ℕ → List Entry → Entry → Type 0
IsTakenOf w hold count before (Join seat key reader writer) = ⊥
IsTakenOf w hold count before (Line seat bytes) = ⊥
IsTakenOf w hold count before (Leave seat drop) = ⊥
IsTakenOf w hold count before (Taken seat taken) = (seat ≡ hold.seat) × (taken ≤ count) × (is_held w before hold ≡ true)
IsTakenOf w hold count before (Cut seat) = ⊥

-- how many LFs a text has
abbrev pub line_ends : List ℕ → ℕ
line_ends text = length (filter (λ byte. byte == 10) text)

-- of an output's bytes, this text was written, which has so many whole lines at least
pub record HasLines (text : List ℕ) (count : ℕ) (before after : Option (List ℕ)) : Type 0 where
  pub written : after ≡ append_known before text
  pub counted : count ≤ line_ends text

-- a text is exactly the first so many of these lines
pub record IsFirst (lines : List (List ℕ)) (count : ℕ) (text : List ℕ) : Type 0 where
  pub within : count ≤ length lines
  pub text_is : text ≡ bytes_of (take count lines)

-- these, and a part of the next ones
pub record IsPart (lines : List (List ℕ)) (count : ℕ) (text : List ℕ) : Type 0 where
  pub within : count ≤ length lines
  pub part : List ℕ
  pub prefix : IsPrefix part (bytes_of (drop count lines))
  pub text_is : text ≡ bytes_of (take count lines) ++ part

-- between two turns of the writing half, which wrote so many lines since the pass was p
pub record IsWriting (w : World) (hold : Hold) (p q : PassState Entry World) (count : ℕ) (before mid : Option (List ℕ)) : Type 0 where
  pub more : List ℕ
  pub text : List ℕ
  pub got : Got (IsTakenOf w hold count) p q more
  -- its next turn finds the Join
  pub heard : hold.place < q.heard
  pub has : HasLines text count before mid
  pub fresh : (hold.place < length q.front) ⊎ ((count ≡ 0) × (text ≡ []))
  pub wrote : HasJoined w q.front hold → IsAlone w q.front more hold → IsFirst (lines_of w q.front hold) count text

-- what was written of a session's lines, by how the writing half ended
abbrev pub WroteBy : Wrote → List (List ℕ) → ℕ → List ℕ → Type 0
WroteBy AllWritten lines count text = (count ≡ length lines) × (text ≡ bytes_of lines)
WroteBy writes.Cut lines count text = IsFirst lines count text
WroteBy Memory lines count text = IsFirst lines count text
WroteBy WriteFault lines count text = IsPart lines count text

-- whether the session was cut, where the writing half looked
abbrev pub IsCutSo : Wrote → World → List Entry → Hold → Type 0
IsCutSo AllWritten w h hold = is_cut w h hold ≡ false
IsCutSo writes.Cut w h hold = is_cut w h hold ≡ true
IsCutSo Memory w h hold = Unit {0}
IsCutSo WriteFault w h hold = Unit {0}

-- The writing half ended, which began with the pass p and wrote so many lines whole
pub record HasWritten (w : World) (hold : Hold) (p q : PassState Entry World) (end : Wrote) (before after : Option (List ℕ)) : Type 0 where
  pub more : List ℕ
  pub count : ℕ
  pub text : List ℕ
  pub got : Got (IsWriters w hold count) p q more
  -- unless it stopped, it dropped nothing
  pub drops : end ≡ AllWritten → All (StandsAt (IsTakenOf w hold count) q.front) more
  pub cut : IsCutSo end w q.front hold
  -- its front has the Join, and its passes no longer hold the seat
  pub long : hold.place < length q.front
  pub gone : is_held w q.front hold ≡ false
  pub has : HasLines text count before after
  pub wrote : HasJoined w q.front hold → IsAlone w q.front more hold → WroteBy end (lines_of w q.front hold) count text
