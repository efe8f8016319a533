-- The lines of an input, and why no further one is read.
use Rattle.std.specs.Prelude.{◌≡◌, ◌≢◌, ◌≤◌, ℕ, Bool, true, false, List, [], ◌++◌, length, All, Option}
use Rattle.std.specs.Io.KnownBytes.{IsAtEnd}
use Rattle.line_io.specs.Lines.{HasNoLineEnd, lines_of as text_lines}
use Rattle.line_io.specs.ReaderState.{ReaderState}
use Rattle.line_io.specs.Told.{WhereTold}
use Rattle.session.specs.declared.input.Stop.{Stop}
use Rattle.session.specs.declared.input.Stop.TheVariants.{End, TooLong, ReadFault, Memory}

abbrev pub is_memory : Stop → Bool
is_memory End = false
is_memory TooLong = false
is_memory ReadFault = false
is_memory Memory = true

-- a reader of lines of at most 4,096 bytes of a source that has this left. Where it met an end, it is the source's
pub record IsReaderOf (reader : ReaderState) (left : Option (List ℕ)) : Type 0 where
  pub cap : reader.cap ≡ 4096
  pub met : reader.ended ≡ true → IsAtEnd left

-- of a text these lines came first, and the rest is to come
abbrev pub CameFirst : List (List ℕ) → Option (List ℕ) → Option (List ℕ) → Type 0
CameFirst lines text rest = WhereTold text rest (λ text rest. text_lines text ≡ lines ++ text_lines rest)

-- a line that a session may have
abbrev pub IsShort : List ℕ → Type 0
IsShort line = length line ≤ 4096

-- of a text these lines came first, behind them others of at most 4,096 bytes, and the rest is to come
pub record CamePast (lines : List (List ℕ)) (text rest : Option (List ℕ)) : Type 0 where
  pub others : List (List ℕ)
  pub short : All IsShort others
  pub came : CameFirst (lines ++ others) text rest

-- no line was taken; for want of memory one may be lost
abbrev pub StopsBefore : Stop → Option (List ℕ) → Option (List ℕ) → Type 0
StopsBefore stop text rest = stop ≢ Memory → rest ≡ text

-- why it stopped, by what the reader has read and not given, and what its source has left: at the end there is none of both
abbrev pub Stops : Stop → ReaderState → Option (List ℕ) → Type 0
Stops End reader left = IsAtEnd left × (reader.pending ≡ [])
Stops TooLong reader left = (length reader.pending ≡ 4097) × HasNoLineEnd reader.pending
Stops ReadFault reader left = (length reader.pending ≤ 4096) × HasNoLineEnd reader.pending
Stops Memory reader left = Unit {0}
