-- What a session did, from its first line on.
use Rattle.std.specs.Prelude.{◌≡◌, ◌⊎◌, ℕ, List, Option, Some, None}
use Rattle.line_io.specs.Reader.{bytes_to_come}
use Rattle.line_io.specs.ReaderState.{ReaderState}
use Rattle.seats.specs.declared.seat_state.JoinRefusal.TheVariants as joins
use Rattle.command_rules.specs.declared.refusal.Refusal.TheVariants.{NoHello}
use Rattle.campaign_law.specs.declared.entry.Entry.{Entry}
use Rattle.campaign_law.specs.Texts.{refusal_line}
use Rattle.campaign_law.specs.World.{World}
use Rattle.turn_lock.specs.Pass.{PassState}
use Rattle.session.specs.declared.input.Stop.{Stop}
use Rattle.session.specs.declared.sitting.Ended.{Ended}
use Rattle.session.specs.declared.sitting.Ended.TheVariants as ends
use Rattle.session.specs.Inputs.{IsReaderOf, Stops, StopsBefore}
use Rattle.session.specs.Hellos.{CameWith}
use Rattle.session.specs.Ends.{ended_at, WroteLine}
use Rattle.session.specs.Sat.{HasSat}

-- the line that tells it was written; for want of memory nothing was
abbrev pub TellsNoHello : Option (List ℕ) → Option (List ℕ) → ℕ → ℕ → Ended → Type 0
TellsNoHello before after faults_before faults_after ended =
    ((ended ≡ ends.Refused joins.NoHello) × WroteLine (refusal_line 0 NoHello) before after faults_before faults_after)
    ⊎ ((ended ≡ ends.Memory) × (after ≡ before))

-- With the reader's pass before and after it, p and q, and the writer's, s and t. Its source had this text left. What the reader of lines has read and not
-- given is still to come
pub data HasServed (w : World) (p q s t : PassState Entry World) (text left before after : Option (List ℕ)) (faults_before faults_after : ℕ) (ended : Ended) : Type 0 where
  -- no first line was read: it entered and wrote nothing
  unread : (reader : ReaderState) (stop : Stop) → IsReaderOf reader left → StopsBefore stop text (bytes_to_come reader left) → Stops stop reader left → q ≡ p → t ≡ s → after ≡ before → ended ≡ ended_at stop → HasServed w p q s t text left before after faults_before faults_after ended
  -- the first line was no hello: it entered nothing
  strange : (reader : ReaderState) → IsReaderOf reader left → CameWith None text (bytes_to_come reader left) → q ≡ p → t ≡ s → TellsNoHello before after faults_before faults_after ended → HasServed w p q s t text left before after faults_before faults_after ended
  -- it was a hello, behind which this came
  greeted : (seat : ℕ) (key : List ℕ) (behind : Option (List ℕ)) (reader : ReaderState) → IsReaderOf reader left → CameWith (Some (seat, key)) text behind → HasSat w seat key p q s t behind reader left before after faults_before faults_after ended
      → HasServed w p q s t text left before after faults_before faults_after ended
