-- A keeper: what it knows of the hall's history, and what a crash leaves of its disk.
use Rattle.std.specs.Prelude.{◌≡◌, ◌<◌, ◌≤◌, ◌+◌, ◌^◌, ℕ, List, [], length, take, drop, All, Bool, true, false, Result, Ok, Err}
use Rattle.turn_lock.specs.Pass.{HallState, PassState, IsPassOf}
use Rattle.campaign_law.specs.declared.entry.Entry.{Entry}
use Rattle.crash_log.specs.declared.faults.LogFault.{LogFault}
use Rattle.crash_log.specs.declared.faults.LogFault.TheVariants.{DiskFault, BadLog, Full, Memory}
use Rattle.crash_log.specs.Entries.{IsShort}
use Rattle.crash_log.specs.Log.{IsLog, HoldsLog}

-- entries of the history from this place on
pub record IsGroup (group : List Entry) (from : ℕ) (history : List Entry) : Type 0 where
  pub short : All IsShort group
  pub is : group ≡ take (length group) (drop from history)
  pub small : from + length group < 2 ^ 64

-- the entries that an answer tells of
abbrev pub group_of : Result (List Entry) LogFault → List Entry
group_of (Ok group) = group
group_of (Err fault) = []

abbrev pub is_disk_fault : LogFault → Bool
is_disk_fault DiskFault = true
is_disk_fault (BadLog at) = false
is_disk_fault Full = false
is_disk_fault Memory = false

-- a log of this text, with a prefix of the front that has so many entries at least
pub record LeavesPart (text : List ℕ) (least : ℕ) (front : List Entry) (file : List ℕ) : Type 0 where
  pub count : ℕ
  pub least_is : least ≤ count
  pub within : count ≤ length front
  pub is : IsLog text (take count front) file

-- what never changes of a keeper: its hall, the text of its log, how many entries the log had at first, and the disk's moment then
pub record LogOrigin (Origin : Type 0) : Type 0 where
  pub hall : HallState Origin
  pub text : List ℕ
  pub recovered : ℕ
  pub start : ℕ

-- A keeper: the pass by which it reads the hall's history, its disk, where the log's closed gate stands, how many entries of the
-- history the log has, and whether the disk failed
pub record KeeperState (Origin D : Type 0) : Type 0 where
  pub origin : LogOrigin Origin
  pub pass : PassState Entry Origin
  pub disk : D
  pub end : ℕ
  pub logged : ℕ
  pub stuck : Bool

-- the entries that the log has
abbrev pub log_history : {Origin D : Type 0} → KeeperState Origin D → List Entry
log_history k = take k.logged k.pass.front

-- what a crash leaves of a disk whose log has the first `logged` entries of the front, and had `recovered` of them at the moment `start`
pub record KeepsDisk {D : Type 0} (seen : D → List ℕ) (may_leave : D → List ℕ → Type 0) (moment : D → ℕ) (left_since : D → ℕ → List ℕ → Type 0)
    (text : List ℕ) (front : List Entry) (recovered start logged : ℕ) (stuck : Bool) (disk : D) (end : ℕ) : Type 0 where
  -- unless the disk failed, all is safe
  pub holds : stuck ≡ false → HoldsLog seen may_leave disk end text (take logged front)
  pub now : (c : List ℕ) → may_leave disk c → LeavesPart text logged front c
  pub began : start ≤ moment disk
  -- at each moment since the start, inside a call too
  pub since : (c : List ℕ) → left_since disk start c → LeavesPart text recovered front c

pub record IsKept {Origin D : Type 0} (tells : Type 0) (seen : D → List ℕ) (may_leave : D → List ℕ → Type 0) (moment : D → ℕ) (left_since : D → ℕ → List ℕ → Type 0)
    (k : KeeperState Origin D) : Type 0 where
  pub pass_is : IsPassOf k.origin.hall k.pass
  pub within : k.logged ≤ length k.pass.front
  pub least : k.origin.recovered ≤ k.logged
  pub disk_is : tells → KeepsDisk seen may_leave moment left_since k.origin.text k.pass.front k.origin.recovered k.origin.start k.logged k.stuck k.disk k.end

-- after a group was put behind the log, or refused
abbrev pub KeepsMore : {D : Type 0} (seen : D → List ℕ) (may_leave : D → List ℕ → Type 0) (moment : D → ℕ) (left_since : D → ℕ → List ℕ → Type 0)
    → List Entry → Result (List Entry) LogFault → D → ℕ → D → ℕ → Bool → Type 0
KeepsMore seen may_leave moment left_since group answer old end new end_after stuck =
    (text : List ℕ) (front : List Entry) (recovered start logged : ℕ) → recovered ≤ logged → logged ≤ length front → IsGroup group logged front
    → KeepsDisk seen may_leave moment left_since text front recovered start logged false old end
    → KeepsDisk seen may_leave moment left_since text front recovered start (logged + length (group_of answer)) stuck new end_after
