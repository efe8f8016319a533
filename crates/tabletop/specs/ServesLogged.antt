-- What a run of `serve FILE PORT COUNT --log LOG` did.
use Rattle.std.specs.Prelude.{◌≡◌, ◌⊎◌, ℕ, Bool, List, [], ◌∷◌, ◌++◌, length, codes, Option, Some, None}
use Rattle.std.specs.Io.KnownBytes.{append_known}
use Rattle.campaign_law.specs.declared.entry.Entry.{Entry}
use Rattle.campaign_law.specs.World.{World, replay}
use Rattle.campaign_law.specs.Law.{IsOpening}
use Rattle.campaign_core.specs.Opening.{world_of_text}
use Rattle.script_play.specs.Sending.{WroteFront}
use Rattle.session.specs.declared.service.Sat.{Sat}
use Rattle.serving.specs.declared.sittings.Sitting.{Sitting}
use Rattle.log_serving.specs.declared.answers.LogServed.{LogServed}
use Rattle.log_serving.specs.declared.answers.LogServed.TheVariants as served
use Rattle.log_serving.specs.Evening.{ServesEvening, ServesNobody}
use Rattle.command_words.specs.LoggedServe.{LoggedService}
use Rattle.tabletop.specs.declared.endings.Ended.{Ended}
use Rattle.tabletop.specs.declared.endings.Ended.TheVariants as plain
use Rattle.tabletop.specs.declared.log_end.LogEnded.{LogEnded}
use Rattle.tabletop.specs.declared.log_end.LogEnded.TheVariants.{Plain, Usage, DiskFault, Full}
use Rattle.tabletop.specs.Ends.{Fetched, NotFetched}
use Rattle.tabletop.specs.Logged.{Begins, BreaksFormat, HasNoLog, leaves}
use Rattle.tabletop.specs.LogEndings.{log_status, log_line, IsToldInLog}

-- the last line: the usage of this form, or as for a run of `play` with a log
abbrev pub evening_line : LogEnded → List ℕ
evening_line Usage = codes "tabletop: usage: serve FILE PORT COUNT --log LOG [--end]" ++ 10 ∷ []
evening_line ended = log_line ended

-- as what an evening ends the run
abbrev pub served_as : LogServed → LogEnded
served_as served.Done = Plain plain.Done
served_as served.WriteFault = Plain plain.WriteFault
served_as served.DoorFault = Plain plain.DoorFault
served_as served.Memory = Plain plain.Memory
served_as served.DiskFault = DiskFault
served_as served.Full = Full

module _ {R In Out D : Type 0} (Does : Sitting R In Out → (In × Out) × Sat → Type 0) (written : Out → Option (List ℕ)) (Tells : Type 0)
    (may_leave : D → List ℕ → Type 0) (left_since : D → ℕ → List ℕ → Type 0) where
  -- Behind the entries of a log and the Leaves of who was there an evening was served, or nobody was. The log had these entries at the
  -- moment `start`
  pub record HasEvening (ended : LogEnded) (service : LoggedService) (text : List ℕ) (origin : World) (kept : List Entry)
      (out after : Option (List ℕ)) (start : ℕ) (new : D) : Type 0 where
    pub answer : LogServed
    pub told : ended ≡ served_as answer
    pub serves : ServesNobody Tells left_since answer text (length kept) (kept ++ leaves (replay origin kept)) out after start new
        ⊎ ServesEvening Does written Tells may_leave left_since answer text (length kept) service.count service.end origin
        (kept ++ leaves (replay origin kept)) out after start new

module _ {R In Out D : Type 0} (Does : Sitting R In Out → (In × Out) × Sat → Type 0) (written : Out → Option (List ℕ)) (Tells : Type 0)
    (seen : D → List ℕ) (may_leave : D → List ℕ → Type 0) (moment : D → ℕ) (left_since : D → ℕ → List ℕ → Type 0) where
  -- a log was made or recovered, and the evening was served behind it
  pub record RunsEvening (ended : LogEnded) (service : LoggedService) (text : List ℕ) (out after : Option (List ℕ))
      (old new : D) : Type 0 where
    pub origin : World
    pub is : world_of_text text ≡ Some origin
    pub opens : IsOpening origin
    pub kept : List Entry
    pub began : D
    pub gate : ℕ
    pub begins : Tells → Begins seen may_leave moment left_since text kept old began gate
    pub evening : HasEvening Does written Tells may_leave left_since ended service text origin kept out after (moment began) new

  -- once the campaign's text was there
  abbrev pub TextServesLogged : LogEnded → LoggedService → List ℕ → (out after : Option (List ℕ)) → D → D → Type 0
  TextServesLogged ended service text out after old new =
      ((BreaksFormat ended text ⊎ HasNoLog Tells ended text (seen old)) × (after ≡ out)) ⊎ RunsEvening ended service text out after old new

  -- on the campaign of a file, which has this text where it is told
  abbrev pub FileServesLogged : (DeskFailed : Type 0) → LogEnded → LoggedService → (campaign out after : Option (List ℕ)) → D → D → Type 0
  FileServesLogged DeskFailed ended service campaign out after old new =
      ((want : Ended) × (ended ≡ Plain want) × NotFetched DeskFailed want campaign × (after ≡ out))
      ⊎ Fetched (λ text. TextServesLogged ended service text out after old new) campaign

  -- the words asked for this, or for nothing. The desk has a text of some names
  abbrev pub JobServesLogged : (DeskFailed : Type 0) → LogEnded → Option LoggedService → (texts : List ℕ → Option (List ℕ))
      → (out after : Option (List ℕ)) → D → D → Type 0
  JobServesLogged DeskFailed ended None texts out after old new = (ended ≡ Usage) × (after ≡ out)
  JobServesLogged DeskFailed ended (Some service) texts out after old new =
      FileServesLogged DeskFailed ended service (texts service.file) out after old new

  -- the whole run: how it ended and what was told of that, by its status, and the last line printed, of which a fault leaves a front
  pub record HasEndedServingLogged (status : ℕ) (asked : Option LoggedService) (texts : List ℕ → Option (List ℕ))
      (out after : Option (List ℕ)) (old new : D) (DeskFailed OutFailed : Type 0) : Type 0 where
    pub ended : LogEnded
    pub told : LogEnded
    pub is_told : IsToldInLog ended told
    pub status_is : status ≡ log_status told
    -- what was written before the last line
    pub before_line : Option (List ℕ)
    pub ends : JobServesLogged DeskFailed ended asked texts out before_line old new
    pub line : (after ≡ append_known before_line (evening_line told)) ⊎ (OutFailed × WroteFront before_line (evening_line told) after)
