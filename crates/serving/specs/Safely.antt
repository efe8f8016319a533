-- That sessions of a hall tell of no entry before it is safe. `Safe n` says that the first n entries of the history are.
use Rattle.std.specs.Prelude.{◌≡◌, ◌≤◌, ◌<◌, ◌⊎◌, ℕ, Contains, List, take, length, Option}
use Rattle.std.specs.Io.KnownBytes.{append_known}
use mathlib.Core.List.{IsPrefix}
use Rattle.campaign_law.specs.declared.entry.Entry.{Entry}
use Rattle.campaign_law.specs.World.{World}
use Rattle.campaign_law.specs.Law.{bytes_of}
use Rattle.campaign_law.specs.Session.{session_at}
use Rattle.serving.specs.Fates.{Fate, busy, sat, owns_of}
use Rattle.serving.specs.Alone.{IsAccepted, WroteItsOwn}

-- nobody but these sessions entered anything from the place `base` on: each place of the history from there on is an own place of one of them
abbrev pub NobodyElseFrom : {R In Out : Type 0} → ℕ → List Entry → List (Fate R In Out) → Type 0
NobodyElseFrom base G fates = (k : ℕ) → base ≤ k → k < length G → Contains (owns_of fates) k

-- what was written is a front of the lines that the first n entries have for the session of the Join at this place, and these are safe
pub record WroteOfSafe (Safe : ℕ → Type 0) (w : World) (G : List Entry) (place seat : ℕ) (before after : Option (List ℕ)) : Type 0 where
  pub n : ℕ
  pub safe : Safe n
  pub within : n ≤ length G
  pub output : List ℕ
  pub written : after ≡ append_known before output
  pub front : IsPrefix output (bytes_of (session_at w (take n G) place seat))

-- or nothing was written
abbrev pub WroteSafely : (ℕ → Type 0) → World → List Entry → (place seat : ℕ) → (before after : Option (List ℕ)) → Type 0
WroteSafely Safe w G place seat before after = (after ≡ before) ⊎ WroteOfSafe Safe w G place seat before after

-- so a session wrote its own lines whose Join was accepted at a place from `base` on. `safe` is what an output knows of what is safe, `written` what it took
abbrev pub IsToldSafely : {R In Out : Type 0} → World → List Entry → ℕ → (Out → ℕ → Type 0) → (Out → Option (List ℕ)) → Fate R In Out → Type 0
IsToldSafely w G base safe written (busy ends) = Unit {0}
IsToldSafely w G base safe written (sat sitting done) =
    (place seat : ℕ) → base ≤ place → IsAccepted w G place seat sitting.reader.number sitting.writer.number
    → ∥ WroteItsOwn w G place seat done.1.ended (written sitting.output) (written done.0.1) × WroteSafely (safe done.0.1) w G place seat (written sitting.output) (written done.0.1) ∥₁
