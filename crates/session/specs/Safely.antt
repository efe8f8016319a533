-- That a session tells of no entry before it is safe. `Safe n` says that the first n entries of the history are.
use Rattle.std.specs.Prelude.{◌≡◌, ◌<◌, ◌≤◌, ◌⊎◌, ℕ, suc, List, [], ◌∷◌, ◌++◌, take, length, slice_get, Option, Some}
use Rattle.std.specs.Io.KnownBytes.{append_known}
use mathlib.Core.List.{IsPrefix}
use Rattle.seats.specs.declared.seat_state.JoinRefusal.{JoinRefusal}
use Rattle.campaign_law.specs.declared.entry.Entry.{Entry}
use Rattle.campaign_law.specs.declared.entry.Entry.TheVariants.{Join}
use Rattle.campaign_law.specs.Law.{bytes_of}
use Rattle.campaign_law.specs.Outcome.{refusal_of_join}
use Rattle.campaign_law.specs.World.{World, outcome_of, replay}
use Rattle.turn_lock.specs.Pass.{PassState}
use Rattle.session.specs.declared.hold.Hold.{Hold}
use Rattle.session.specs.Held.{lines_of, HasJoined}
use Rattle.session.specs.Own.{IsAlone}
use Rattle.session.specs.Sat.{Entered}
use Rattle.session.specs.Served.{IsUndisturbed}

-- this text is of the session's lines that the first n entries of the history have, and these are safe. The writing half has these own places
pub record TellsSafely (Safe : ℕ → Type 0) (w : World) (h : List Entry) (hold : Hold) (own : List ℕ) (text : List ℕ) : Type 0 where
  pub n : ℕ
  pub safe : Safe n
  pub past : hold.place < n
  pub within : n ≤ length h
  pub front : HasJoined w h hold → IsAlone w h own hold → IsPrefix text (bytes_of (lines_of w (take n h) hold))

-- so is what the writing half wrote since its pass was p
pub record WritesSafely (Safe : ℕ → Type 0) (w : World) (hold : Hold) (p q : PassState Entry World) (before after : Option (List ℕ)) : Type 0 where
  pub more : List ℕ
  pub text : List ℕ
  pub own : q.own ≡ p.own ++ more
  pub written : after ≡ append_known before text
  pub told : (text ≡ []) ⊎ TellsSafely Safe w q.front hold more text

-- The Join was accepted. Each line of which a byte was written is a line of one of the first n entries, and these are safe, in every history that begins
-- with the fronts of both passes
pub record IsToldSafely (Safe : ℕ → Type 0) (w : World) (e : Entry) (hold : Hold) (p q s t : PassState Entry World) (before after : Option (List ℕ)) : Type 0 where
  pub readers : List ℕ
  pub writers : List ℕ
  pub reader_own : q.own ≡ (p.own ++ hold.place ∷ []) ++ readers
  pub writer_own : t.own ≡ s.own ++ writers
  pub there : slice_get q.front hold.place ≡ Some e
  pub n : ℕ
  pub safe : Safe n
  pub within : n ≤ length t.front
  pub output : List ℕ
  pub written : after ≡ append_known before output
  pub front : (h : List Entry) → IsPrefix q.front h → IsPrefix t.front h → IsUndisturbed w h (readers ++ writers) hold → IsPrefix output (bytes_of (lines_of w (take n h) hold))

-- With the reader's pass before and after it, p and q, and the writer's, s and t
pub data SaysSafely (Safe : ℕ → Type 0) (w : World) (p q s t : PassState Entry World) (before after : Option (List ℕ)) : Type 0 where
  -- it wrote nothing
  silent : after ≡ before → SaysSafely Safe w p q s t before after
  -- it entered nothing, and its line tells of no entry
  strange : q ≡ p → t ≡ s → Safe 0 → SaysSafely Safe w p q s t before after
  -- its Join at this place was refused. Its line tells of the entries up to that
  refused : (seat place : ℕ) (key : List ℕ) (refusal : JoinRefusal) → Entered (Join seat key p.number s.number) place p q → (outcome_of (replay w (take place q.front)) (Join seat key p.number s.number)).refusal ≡ Some (refusal_of_join refusal) → t ≡ s
      → Safe (suc place) → SaysSafely Safe w p q s t before after
  seated : (seat place : ℕ) (key : List ℕ) → IsToldSafely Safe w (Join seat key p.number s.number) (record { seat = seat; place = place; reader = p.number; writer = s.number }) p q s t before after → SaysSafely Safe w p q s t before after
