-- The campaign's text at the end.
use Rattle.std.specs.Prelude.{◌≡◌, ℕ, Bool, true, false, List, [], ◌∷◌, ◌++◌, length, Option}
use mathlib.Core.List.{IsPrefix}
use Rattle.campaign_law.specs.declared.entry.Entry.{Entry}
use Rattle.campaign_law.specs.World.{World, replay}
use Rattle.campaign_law.specs.Worlds.{opened_of}
use Rattle.campaign_writing.specs.Canonical.{canonical}
use Rattle.turn_lock.specs.Pass.{PassState}
use Rattle.serving.specs.declared.endings.Dump.{Dump}
use Rattle.serving.specs.declared.serving_hall.Served.{Served}
use Rattle.serving.specs.declared.serving_hall.Served.TheVariants as answers
use Rattle.serving.specs.Fates.{IsPrinted}

-- the canonical text of the campaign with this history, and its length
pub record IsDumpOf (origin : World) (h : List Entry) (dump : Dump) : Type 0 where
  pub text_is : dump.text ≡ canonical (opened_of (replay origin h))
  pub length_is : dump.length ≡ length h

-- the line was printed, or after a fault a front of it
abbrev pub PrintsText : Served → List ℕ → Option (List ℕ) → Option (List ℕ) → Type 0
PrintsText answers.Done text before after = IsPrinted true (text ++ 10 ∷ []) before after
PrintsText answers.WriteFault text before after = IsPrinted false (text ++ 10 ∷ []) before after
PrintsText answers.DoorFault text before after = ⊥
PrintsText answers.Memory text before after = after ≡ before

-- The canonical text of the campaign was printed, as one more turn found it by this pass. The turn entered nothing
pub record PrintsEnd (served : Served) (origin : World) (q : PassState Entry World) (before after : Option (List ℕ)) : Type 0 where
  pub r : PassState Entry World
  pub longer : IsPrefix q.front r.front
  pub own : r.own ≡ q.own
  pub printed : PrintsText served (canonical (opened_of (replay origin r.front))) before after

-- Serving the hall ended so, and the run then so: with `end`, and where all was done, the campaign's text was printed
abbrev pub EndsWith : Bool → Served → Served → World → PassState Entry World → Option (List ℕ) → Option (List ℕ) → Type 0
EndsWith true answers.Done served origin q before after = PrintsEnd served origin q before after
EndsWith true answers.WriteFault served origin q before after = (served ≡ answers.WriteFault) × (after ≡ before)
EndsWith true answers.DoorFault served origin q before after = (served ≡ answers.DoorFault) × (after ≡ before)
EndsWith true answers.Memory served origin q before after = (served ≡ answers.Memory) × (after ≡ before)
EndsWith false told served origin q before after = (served ≡ told) × (after ≡ before)
