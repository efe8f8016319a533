-- A session from its first line on.
use Rattle.std.proofs.Common.{◌≡◌, ℕ, false, List, [], refl, sym, subst}
use Rattle.std.specs.Prelude.{Option, Some, None}
use Rattle.line_io.specs.Reader.{bytes_to_come}
use Rattle.line_io.specs.ReaderState.{ReaderState}
use Rattle.campaign_law.specs.declared.entry.Entry.{Entry}
use Rattle.campaign_law.specs.World.{World}
use Rattle.turn_lock.specs.Pass.{PassState}
use Rattle.session.specs.declared.input.Stop.{Stop}
use Rattle.session.specs.declared.input.Stop.TheVariants.{Memory}
use Rattle.session.specs.declared.sitting.Ended.{Ended}
use Rattle.session.specs.declared.sitting.Ended.TheVariants as ends
use Rattle.session.specs.Inputs.{IsReaderOf, Stops, StopsBefore}
use Rattle.session.specs.Hellos.{CameWith}
use Rattle.session.specs.Ends.{ended_at}
use Rattle.session.specs.Sat.{HasSat}
use Rattle.session.specs.Session.{TellsNoHello, HasServed, unread, strange, greeted}

-- a reader that read nothing yet has what its source has
abbrev fresh : ReaderState
fresh = record { cap = 4096; pending = []; ended = false }

fresh_left : (left : Option (List ℕ)) → bytes_to_come fresh left ≡ left
fresh_left None = refl
fresh_left (Some text) = refl

from_fresh : (first : ReaderState) (left : Option (List ℕ)) → first ≡ fresh → bytes_to_come first left ≡ left
from_fresh first left is = subst (λ r. bytes_to_come r left ≡ left) (sym is) (fresh_left left)

-- want of memory before the first line
pub serves_nothing : (w : World) (p s : PassState Entry World) (left before : Option (List ℕ)) (faults : ℕ) → HasServed w p p s s left left before before faults faults ends.Memory
serves_nothing w p s left before faults = unread fresh Memory (record { cap = refl; met = λ ended. cc }) (λ other. absurd (other refl)) tt refl refl refl refl

module _ (w : World) (p s : PassState Entry World) (first reader : ReaderState) (text left before after : Option (List ℕ)) (faults_before faults_after : ℕ) (ended : Ended) (is : first ≡ fresh) (real : IsReaderOf reader left) where
  pub serves_unread : (stop : Stop) → StopsBefore stop (bytes_to_come first text) (bytes_to_come reader left) → Stops stop reader left → after ≡ before → ended ≡ ended_at stop → HasServed w p p s s text left before after faults_before faults_after ended
  serves_unread stop same stops none end = unread reader stop real (subst (λ x. StopsBefore stop x (bytes_to_come reader left)) (from_fresh first text is) same) stops refl refl none end

  pub serves_strange : CameWith None (bytes_to_come first text) (bytes_to_come reader left) → TellsNoHello before after faults_before faults_after ended → HasServed w p p s s text left before after faults_before faults_after ended
  serves_strange came tells = strange reader real (subst (λ x. CameWith None x (bytes_to_come reader left)) (from_fresh first text is) came) refl refl tells

  pub serves_greeted : (q t : PassState Entry World) (seat : ℕ) (key : List ℕ) (behind : Option (List ℕ)) → CameWith (Some (seat, key)) (bytes_to_come first text) behind → HasSat w seat key p q s t behind reader left before after faults_before faults_after ended
      → HasServed w p q s t text left before after faults_before faults_after ended
  serves_greeted q t seat key behind came sat = greeted seat key behind reader real (subst (λ x. CameWith (Some (seat, key)) x behind) (from_fresh first text is) came) sat
