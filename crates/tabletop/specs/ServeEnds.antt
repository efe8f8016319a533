-- What a run of `serve` did, by how it ended.
use Rattle.std.specs.Prelude.{◌≡◌, ◌≤◌, ◌⊎◌, ℕ, List, Bool, Option, Some, None, option_and_then}
use Rattle.std.specs.Io.KnownBytes.{append_known}
use Rattle.line_io.specs.Counts.{CountRose}
use Rattle.script_play.specs.Sending.{WroteFront}
use Rattle.session.specs.declared.service.Sat.{Sat}
use Rattle.serving.specs.declared.sittings.Sitting.{Sitting}
use Rattle.serving.specs.declared.serving_hall.Served.TheVariants as answers
use Rattle.serving.specs.declared.hosting.Hosted.{Hosted}
use Rattle.serving.specs.declared.hosting.Hosted.TheVariants as hosted
use Rattle.serving.specs.Outside.{Outside, with_output}
use Rattle.serving.specs.Hosted.{Hosts, NothingServed}
use Rattle.command_words.specs.Words.{Asked, Play, Check, Drill, Serve, Verify, Compare, job_of}
use Rattle.tabletop.specs.declared.endings.Ended.{Ended}
use Rattle.tabletop.specs.declared.endings.Ended.TheVariants.{Done, Usage, BadCampaign, WriteFault, Memory, DoorFault}
use Rattle.tabletop.specs.Endings.{status_of, last_line}
use Rattle.tabletop.specs.Ends.{Fetched, NotFetched}

-- connections are to be served on the campaign of this file: so many, at this port
pub record Service : Type 0 where
  pub file : List ℕ
  pub port : ℕ
  pub count : ℕ
  -- whether the campaign is written at the end
  pub end : Bool

abbrev pub served_here : Asked → Option Service
served_here (Play file end) = None
served_here (Check file) = None
served_here (Drill number lines) = None
served_here (Verify file script seat transcript) = None
served_here (Compare file script file2 script2 seat) = None
served_here (Serve file port count end) = Some (record { file = file; port = port; count = count; end = end })

-- what the words ask to be served; none, where they are no form, or another one
abbrev pub service_in : List (List ℕ) → Option Service
service_in words = option_and_then served_here (job_of words)

-- as what serving ends the run
abbrev pub hosted_as : Hosted → Ended
hosted_as (hosted.Bad breach) = BadCampaign breach
hosted_as hosted.Memory = Memory
hosted_as hosted.Closed = DoorFault
hosted_as (hosted.Served answers.Done) = Done
hosted_as (hosted.Served answers.WriteFault) = WriteFault
hosted_as (hosted.Served answers.DoorFault) = DoorFault
hosted_as (hosted.Served answers.Memory) = Memory

module _ {R In Out : Type 0} (Does : Sitting R In Out → (In × Out) × Sat → Type 0) (written : Out → Option (List ℕ)) where
  -- once the campaign's text was there
  pub record TextServes (ended : Ended) (count : ℕ) (end : Bool) (early late : Outside In Out) (text : List ℕ) : Type 0 where
    pub how : Hosted
    pub told : ended ≡ hosted_as how
    pub hosts : Hosts Does written how text count end early late

  -- on the campaign of a file, which has this text where it is told
  abbrev pub FileServes : (DeskFailed : Type 0) → Ended → ℕ → Bool → (campaign : Option (List ℕ)) → (early late : Outside In Out) → Type 0
  FileServes DeskFailed ended count end campaign early late =
      (NotFetched DeskFailed ended campaign × NothingServed early late) ⊎ Fetched (TextServes ended count end early late) campaign

  -- the words asked for this, or for nothing that is served. The desk has a text of some names
  abbrev pub JobServes : (DeskFailed : Type 0) → Ended → Option Service → (texts : List ℕ → Option (List ℕ)) → (early late : Outside In Out) → Type 0
  JobServes DeskFailed ended None texts early late = ((ended ≡ Usage) ⊎ (ended ≡ Memory)) × NothingServed early late
  JobServes DeskFailed ended (Some service) texts early late = FileServes DeskFailed ended service.count service.end (texts service.file) early late

  -- the whole run: how it ended, by its status, and the last line printed, of which a fault leaves a front
  pub record HasEndedServing (status : ℕ) (service : Option Service) (texts : List ℕ → Option (List ℕ)) (early late : Outside In Out) (DeskFailed : Type 0) : Type 0 where
    pub ended : Ended
    pub status_is : status ≡ status_of ended
    -- what was written before the last line, and how many calls of the output had failed by then
    pub before_line : Option (List ℕ)
    pub faults : ℕ
    pub later : faults ≤ late.out_faults
    pub ends : JobServes DeskFailed ended service texts early (with_output late before_line faults)
    pub line : (late.written ≡ append_known before_line (last_line ended)) ⊎ (CountRose faults late.out_faults × WroteFront before_line (last_line ended) late.written)
