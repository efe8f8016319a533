-- What an evening was that was served with a log.
use Rattle.std.specs.Prelude.{◌≡◌, ◌<◌, ◌⊎◌, ℕ, Bool, true, false, All, List, length, Option, Result, Ok, Err}
use mathlib.Core.List.{IsPrefix}
use Rattle.campaign_law.specs.declared.entry.Entry.{Entry}
use Rattle.campaign_law.specs.World.{World}
use Rattle.crash_log.specs.declared.faults.LogFault.{LogFault}
use Rattle.crash_log.specs.declared.faults.LogFault.TheVariants as fault
use Rattle.evening_log.specs.Keeping.{LeavesPart, LogOrigin}
use Rattle.turn_lock.specs.Pass.{HallState, UsherState, PassState, IsPassOf, IsUsherOf}
use Rattle.session.specs.declared.service.Sat.{Sat}
use Rattle.serving.specs.declared.sittings.Sitting.{Sitting}
use Rattle.serving.specs.declared.serving_hall.Served.{Served}
use Rattle.serving.specs.declared.serving_hall.Served.TheVariants as answers
use Rattle.serving.specs.Guests.{CanSplit}
use Rattle.serving.specs.Outside.{Outside}
use Rattle.serving.specs.Served.{Serves}
use Rattle.serving.specs.Endings.{PrintsEnd}
use Rattle.serving.specs.Safely.{NobodyElseFrom, IsToldSafely}
use Rattle.log_serving.specs.declared.answers.LogServed.{LogServed}
use Rattle.log_serving.specs.declared.answers.LogServed.TheVariants.{Done, WriteFault, DoorFault, Memory, DiskFault, Full}

-- as what serving the hall ended, where the log has all of it
abbrev pub as_served : Served → LogServed
as_served answers.Done = Done
as_served answers.WriteFault = WriteFault
as_served answers.DoorFault = DoorFault
as_served answers.Memory = Memory

-- want of memory for the last entries of a log is told where all else was done
abbrev pub lacking : LogServed → LogServed
lacking Done = Memory
lacking served = served

-- as what it ended. What became of the log is told first
abbrev pub ended_by : Served → Result (Unit {0}) LogFault → LogServed
ended_by served (Ok unit) = as_served served
ended_by served (Err fault.DiskFault) = DiskFault
ended_by served (Err fault.Full) = Full
ended_by served (Err (fault.BadLog at)) = lacking (as_served served)
ended_by served (Err fault.Memory) = lacking (as_served served)

-- a crash now leaves a log of this text, with the first n entries of the history at least and no others
abbrev pub LeavesFirst : {D : Type 0} → (may_leave : D → List ℕ → Type 0) → (text : List ℕ) → List Entry → D → ℕ → Type 0
LeavesFirst may_leave text history disk n = (file : List ℕ) → may_leave disk file → LeavesPart text n history file

-- a crash at any moment from that one on, inside a call too, leaves a log with the first entries of the history: those that it had then, and no others
abbrev pub LeavesPartSince : {D : Type 0} → (left_since : D → ℕ → List ℕ → Type 0) → (text : List ℕ) → ℕ → List Entry → ℕ → D → Type 0
LeavesPartSince left_since text recovered history start disk = (file : List ℕ) → left_since disk start file → LeavesPart text recovered history file

-- With `end`, and where all was done and the log has it: the campaign's text was printed. Else nothing was
abbrev pub EndsEvening : Bool → Served → LogServed → World → PassState Entry World → Option (List ℕ) → Option (List ℕ) → Type 0
EndsEvening end told served origin q before after =
    ((printed : Served) × (end ≡ true) × (told ≡ answers.Done) × (served ≡ as_served printed) × PrintsEnd printed origin q before after)
    ⊎ ((after ≡ before) × ((served ≡ Memory) ⊎ ((settled : Result (Unit {0}) LogFault) × (served ≡ ended_by told settled) × (served ≡ Done → end ≡ false))))

-- passes of a hall and of its log's, by which an evening can be served
pub record IsReady (hall : HallState World) (usher : UsherState World) (pass : PassState Entry World)
    (log : HallState (LogOrigin World)) (log_usher : UsherState (LogOrigin World)) (log_pass for_door : PassState Entry (LogOrigin World)) : Type 0 where
  pub can_split : CanSplit hall pass usher
  pub few : usher.count ≡ 2
  pub log_hall : log.origin.hall ≡ hall
  pub log_pass_is : IsPassOf log log_pass
  pub for_door_is : IsPassOf log for_door
  pub log_usher_is : IsUsherOf log log_usher
  pub below : for_door.number < log_usher.count

-- the log had the first `recovered` entries at the disk's moment
pub record IsBegun {D : Type 0} (Tells : Type 0) (moment : D → ℕ) (recovered : ℕ) (text : List ℕ) (disk : D) (log : LogOrigin World) : Type 0 where
  pub text_is : log.text ≡ text
  pub recovered_is : log.recovered ≡ recovered
  pub start_is : Tells → log.start ≡ moment disk

module _ {R In Out D : Type 0} (Does : Sitting R In Out → (In × Out) × Sat → Type 0) (written : Out → Option (List ℕ)) (Tells : Type 0)
    (may_leave : D → List ℕ → Type 0) (left_since : D → ℕ → List ℕ → Type 0) where
  -- Connections were taken, at a hall whose history was that of the campaign. The log had the first `recovered` entries of it at the moment `start`
  pub record ServesEvening (served : LogServed) (text : List ℕ) (recovered count : ℕ) (end : Bool) (origin : World) (before : List Entry)
      (out after : Option (List ℕ)) (start : ℕ) (new : D) : Type 0 where
    pub hall : HallState World
    pub origin_is : hall.origin ≡ origin
    pub p : PassState Entry World
    pub q : PassState Entry World
    pub front_is : p.front ≡ before
    pub low : ℕ
    pub high : ℕ
    pub early : Outside In Out
    pub late : Outside In Out
    pub out_is : early.written ≡ out
    pub told : Served
    pub serves : Serves hall Does written told count p q low high early late
    pub ends : EndsEvening end told served origin q late.written after
    -- the one history, as far as the log and the last turn know it
    pub history : List Entry
    pub longer : IsPrefix q.front history
    -- a crash at any moment leaves a front of it, which has each entry that the log had at first
    pub kept : Tells → LeavesPartSince left_since text recovered history start new
    -- and one now each entry of whose lines an output took a byte, where nobody but the sessions entered anything
    pub safe : Tells → NobodyElseFrom (length before) q.front serves.fates
        → All (IsToldSafely origin q.front (length before) (λ output n. LeavesFirst may_leave text history new n) written) serves.fates

-- the disk on which nothing was put: its log has those entries of a history that begins so
pub record HasStayed {D : Type 0} (left_since : D → ℕ → List ℕ → Type 0) (text : List ℕ) (recovered : ℕ) (before : List Entry) (start : ℕ) (disk : D) : Type 0 where
  pub history : List Entry
  pub longer : IsPrefix before history
  pub kept : LeavesPartSince left_since text recovered history start disk

-- Nobody was served
pub record ServesNobody {D : Type 0} (Tells : Type 0) (left_since : D → ℕ → List ℕ → Type 0) (served : LogServed) (text : List ℕ) (recovered : ℕ) (before : List Entry)
    (out after : Option (List ℕ)) (start : ℕ) (new : D) : Type 0 where
  pub cause : (served ≡ Memory) ⊎ (served ≡ DoorFault)
  pub unwritten : after ≡ out
  pub kept : Tells → HasStayed left_since text recovered before start new
