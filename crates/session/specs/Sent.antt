-- A text sent in one piece, and the turns of the writing half as its pass sees them.
use Rattle.std.specs.Prelude.{◌≡◌, ℕ, ◌+◌, Bool, true, List, [], ◌∷◌, length, if◌then◌else◌, Option, Result, Ok, Err}
use Rattle.std.specs.Io.KnownBytes.{append_known}
use Rattle.line_io.specs.Told.{TookPrefix}
use Rattle.turn_lock.specs.Pass.{PassState, HasTurn, known}
use Rattle.campaign_law.specs.declared.entry.Entry.{Entry}
use Rattle.campaign_law.specs.declared.entry.Entry.TheVariants.{Leave, Taken}
use Rattle.campaign_law.specs.World.{World}
use Rattle.session.specs.declared.hold.Hold.{Hold}
use Rattle.session.specs.declared.exchange.Found.{Found}
use Rattle.session.specs.declared.writing.Wrote.{Wrote}
use Rattle.session.specs.declared.writing.Wrote.TheVariants.{All as AllWritten, Cut, Memory, WriteFault}
use Rattle.session.specs.Exchanged.{Exchanged}
use Rattle.session.specs.Left.{LeftSo}

-- the text of so many further lines was written, none of it, or a part
abbrev pub Sends : Result ℕ Wrote → List ℕ → ℕ → ℕ → Option (List ℕ) → Option (List ℕ) → Type 0
Sends (Ok next) text count lines before after = (next ≡ count + lines) × (after ≡ append_known before text)
Sends (Err AllWritten) text count lines before after = ⊥
Sends (Err Cut) text count lines before after = ⊥
Sends (Err Memory) text count lines before after = after ≡ before
Sends (Err WriteFault) text count lines before after = TookPrefix before text after

-- the history was so long then
pub record Exchanges (w : World) (hold : Hold) (count : ℕ) (found : Found) (long : ℕ) (p q : PassState Entry World) : Type 0 where
  pub number : q.number ≡ p.number
  pub entered : Bool
  pub turn : HasTurn (λ before after. Exchanged w hold count before entered found after × (long ≡ length after)) (if entered then Taken hold.seat count ∷ [] else []) (known p) (known q)

pub record Drops (w : World) (hold : Hold) (p q : PassState Entry World) : Type 0 where
  pub number : q.number ≡ p.number
  pub entered : Bool
  pub cut : Bool
  pub turn : HasTurn (λ before after. LeftSo w hold true before entered cut after) (if entered then Leave hold.seat true ∷ [] else []) (known p) (known q)
