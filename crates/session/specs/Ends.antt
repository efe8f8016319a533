-- How a session ends, and the line that tells a refusal.
use Rattle.std.specs.Prelude.{◌≡◌, ℕ, Bool, true, false, if◌then◌else◌, List, [], ◌∷◌, ◌++◌, Option}
use Rattle.std.specs.Io.KnownBytes.{append_known}
use mathlib.Core.List.{IsPrefix}
use Rattle.line_io.specs.Counts.{CountRose}
use Rattle.session.specs.declared.input.Stop.{Stop}
use Rattle.session.specs.declared.input.Stop.TheVariants as stops
use Rattle.session.specs.declared.hearing.ReadEnd.{ReadEnd}
use Rattle.session.specs.declared.hearing.ReadEnd.TheVariants as reads
use Rattle.session.specs.declared.writing.Wrote.{Wrote}
use Rattle.session.specs.declared.writing.Wrote.TheVariants as writes
use Rattle.session.specs.declared.sitting.Ended.{Ended}
use Rattle.session.specs.Inputs.{is_memory}
use Rattle.session.specs.declared.sitting.Ended.TheVariants as ends

-- by why no further line was read
abbrev pub ended_at : Stop → Ended
ended_at stops.End = ends.Left
ended_at stops.TooLong = ends.TooLong
ended_at stops.ReadFault = ends.ReadFault
ended_at stops.Memory = ends.Memory

-- the reading ended for want of memory
abbrev pub wants_memory : ReadEnd → Bool
wants_memory reads.Bye = false
wants_memory reads.Spent = false
wants_memory reads.Cut = false
wants_memory (reads.Stopped stop) = is_memory stop

-- by how its halves ended: the first that holds of a fault of the output, want of memory, a cut, and how the reading ended
abbrev pub ended_by : ReadEnd → Wrote → Ended
ended_by read writes.WriteFault = ends.WriteFault
ended_by read writes.Memory = ends.Memory
ended_by read writes.Cut = if wants_memory read then ends.Memory else ends.Cut
ended_by reads.Bye writes.All = ends.Left
ended_by reads.Spent writes.All = ends.Spent
ended_by reads.Cut writes.All = ends.Cut
ended_by (reads.Stopped stop) writes.All = ended_at stop

-- all that came was entered, and all that was queued was written
abbrev pub is_whole : Ended → Bool
is_whole ends.Left = true
is_whole (ends.Refused refusal) = false
is_whole ends.TooLong = true
is_whole ends.Spent = true
is_whole ends.Cut = false
is_whole ends.ReadFault = true
is_whole ends.WriteFault = false
is_whole ends.Memory = false

-- the first bytes of the line and its LF were written, and all of them where the output's count of faults didn't rise
pub record WroteLine (line : List ℕ) (before after : Option (List ℕ)) (faults_before faults_after : ℕ) : Type 0 where
  pub text : List ℕ
  pub written : after ≡ append_known before text
  pub prefix : IsPrefix text (line ++ 10 ∷ [])
  pub whole : (CountRose faults_before faults_after → ⊥) → text ≡ line ++ 10 ∷ []
