-- What a session did that read a hello.
use Rattle.std.specs.Prelude.{◌≡◌, ℕ, true, false, List, [], ◌∷◌, ◌++◌, take, slice_get, Option, Some}
use mathlib.Core.List.{IsPrefix}
use Rattle.line_io.specs.Reader.{bytes_to_come}
use Rattle.line_io.specs.ReaderState.{ReaderState}
use Rattle.seats.specs.declared.seat_state.JoinRefusal.{JoinRefusal}
use Rattle.campaign_law.specs.declared.entry.Entry.{Entry}
use Rattle.campaign_law.specs.declared.entry.Entry.TheVariants.{Join}
use Rattle.campaign_law.specs.World.{World, outcome_of, replay}
use Rattle.turn_lock.specs.Pass.{PassState}
use Rattle.session.specs.declared.hold.Hold.{Hold}
use Rattle.session.specs.declared.sitting.Ended.{Ended}
use Rattle.session.specs.declared.sitting.Ended.TheVariants as ends
use Rattle.session.specs.Ends.{WroteLine, is_whole}
use Rattle.session.specs.Held.{HasJoined, is_cut}
use Rattle.session.specs.Joined.{IsRefusedBy}
use Rattle.session.specs.Served.{IsServed}

-- the pass got one own place, where this entry stands
pub record Entered (e : Entry) (place : ℕ) (p q : PassState Entry World) : Type 0 where
  pub own : q.own ≡ p.own ++ place ∷ []
  pub there : slice_get q.front place ≡ Some e

-- the Join at this place was refused, and the line that tells the cause was written
pub record IsRefused (w : World) (e : Entry) (p q : PassState Entry World) (before after : Option (List ℕ)) (faults_before faults_after : ℕ) (refusal : JoinRefusal) : Type 0 where
  pub place : ℕ
  pub line : List ℕ
  pub entered : Entered e place p q
  pub refused : IsRefusedBy (outcome_of (replay w (take place q.front)) e) refusal line
  pub wrote : WroteLine line before after faults_before faults_after

-- the Join was accepted, and what the session did holds of every history that begins with the fronts of both passes
pub record IsSeatedSo (w : World) (e : Entry) (hold : Hold) (p q s t : PassState Entry World) (text : Option (List ℕ)) (reader : ReaderState) (left before after : Option (List ℕ)) (ended : Ended) : Type 0 where
  pub readers : List ℕ
  pub writers : List ℕ
  pub reader_own : q.own ≡ (p.own ++ hold.place ∷ []) ++ readers
  pub writer_own : t.own ≡ s.own ++ writers
  pub there : slice_get q.front hold.place ≡ Some e
  pub joined : HasJoined w q.front hold
  -- where it ended otherwise than as cut, by its output or for want of memory, neither front has a Cut of the session
  pub uncut : is_whole ended ≡ true → (is_cut w q.front hold ≡ false) × (is_cut w t.front hold ≡ false)
  pub served : (h : List Entry) → IsPrefix q.front h → IsPrefix t.front h → IsServed w h hold readers writers ended text reader left before after

-- With the reader's pass before and after it, p and q, and the writer's, s and t. Its input had this text to come, and the reader and the source have the rest
pub data HasSat (w : World) (seat : ℕ) (key : List ℕ) (p q s t : PassState Entry World) (text : Option (List ℕ)) (reader : ReaderState) (left before after : Option (List ℕ)) (faults_before faults_after : ℕ) (ended : Ended) : Type 0 where
  -- want of memory: there is no Join
  missing : q.own ≡ p.own → t ≡ s → after ≡ before → bytes_to_come reader left ≡ text → ended ≡ ends.Memory → HasSat w seat key p q s t text reader left before after faults_before faults_after ended
  refused : (refusal : JoinRefusal) → IsRefused w (Join seat key p.number s.number) p q before after faults_before faults_after refusal → t ≡ s → bytes_to_come reader left ≡ text → ended ≡ ends.Refused refusal → HasSat w seat key p q s t text reader left before after faults_before faults_after ended
  seated : (place : ℕ) → IsSeatedSo w (Join seat key p.number s.number) (record { seat = seat; place = place; reader = p.number; writer = s.number }) p q s t text reader left before after ended → HasSat w seat key p q s t text reader left before after faults_before faults_after ended
