-- What each session of a hall was told where nobody else entered anything.
use Rattle.std.specs.Prelude.{◌≡◌, ◌<◌, ◌≤◌, ℕ, suc, true, Contains, List, [], ◌∷◌, take, length, slice_get, Option, Some, None}
use Rattle.std.specs.Io.KnownBytes.{append_known}
use mathlib.Core.List.{IsPrefix}
use Rattle.campaign_law.specs.declared.entry.Entry.{Entry}
use Rattle.campaign_law.specs.declared.entry.Entry.TheVariants.{Join}
use Rattle.campaign_law.specs.World.{World, outcome_of, replay}
use Rattle.campaign_law.specs.Law.{bytes_of}
use Rattle.campaign_law.specs.Player.{opening, trace, machine}
use Rattle.campaign_law.specs.Session.{session_at}
use Rattle.turn_lock.specs.Pass.{PassState}
use Rattle.session.specs.declared.sitting.Ended.{Ended}
use Rattle.session.specs.Among.{AreAmong}
use Rattle.session.specs.Ends.{is_whole}
use Rattle.serving.specs.Fates.{Fate, busy, sat, owns_of}

-- two passes with no own places, whose numbers are from this one on, the reader's first
pub record AreNewPasses (low : ℕ) (reader writer : PassState Entry World) : Type 0 where
  pub reader_new : reader.own ≡ []
  pub writer_new : writer.own ≡ []
  pub from_low : low ≤ reader.number
  pub next : reader.number < writer.number

-- the passes of the sessions were new, and their numbers rise from one session to the next, from `low` on and below `high`
abbrev pub HaveNewPasses : {R In Out : Type 0} → ℕ → List (Fate R In Out) → ℕ → Type 0
HaveNewPasses low [] high = low ≤ high
HaveNewPasses low (busy ends ∷ fates) high = HaveNewPasses low fates high
HaveNewPasses low (sat sitting done ∷ fates) high = AreNewPasses low sitting.reader sitting.writer × HaveNewPasses (suc sitting.writer.number) fates high

-- nobody but these sessions entered anything: each place of the history is an own place of one of them
abbrev pub NobodyElse : {R In Out : Type 0} → List Entry → List (Fate R In Out) → Type 0
NobodyElse G fates = (k : ℕ) → k < length G → Contains (owns_of fates) k

-- the Join of this seat at this place of the history has these pass numbers, and is accepted there
pub record IsAccepted (w : World) (G : List Entry) (place seat reader writer : ℕ) : Type 0 where
  pub key : List ℕ
  pub there : slice_get G place ≡ Some (Join seat key reader writer)
  pub accepted : (outcome_of (replay w (take place G)) (Join seat key reader writer)).refusal ≡ None

-- What was written is a front of the lines that the history has for the session of the Join at this place, or all of them. A player's are lines that the
-- player machine prints, which holds no world
pub record WroteItsOwn (w : World) (G : List Entry) (place seat : ℕ) (ended : Ended) (before after : Option (List ℕ)) : Type 0 where
  pub output : List ℕ
  pub written : after ≡ append_known before output
  pub front : IsPrefix output (bytes_of (session_at w G place seat))
  pub whole : is_whole ended ≡ true → output ≡ bytes_of (session_at w G place seat)
  pub player : 1 ≤ seat → AreAmong (session_at w G place seat) (machine (opening w seat) (trace w G seat))

-- so a session wrote whose Join was accepted. `written` is what an output has taken
abbrev pub IsToldItsOwn : {R In Out : Type 0} → World → List Entry → (Out → Option (List ℕ)) → Fate R In Out → Type 0
IsToldItsOwn w G written (busy ends) = Unit {0}
IsToldItsOwn w G written (sat sitting done) =
    (place seat : ℕ) → IsAccepted w G place seat sitting.reader.number sitting.writer.number
    → ∥ WroteItsOwn w G place seat done.1.ended (written sitting.output) (written done.0.1) ∥₁
