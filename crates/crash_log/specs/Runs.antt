-- What the calls of a log tell of its disk, and what a crash leaves in a run of them.
use Rattle.std.specs.Prelude.{◌≡◌, ◌⊎◌, ℕ, List, [], ◌∷◌, ◌++◌, take, Result, Ok, Err, OnOk, OnErr, IfErr, IsErrOf}
use Rattle.campaign_law.specs.declared.entry.Entry.{Entry}
use Rattle.crash_log.specs.declared.faults.LogFault.{LogFault}
use Rattle.crash_log.specs.declared.faults.LogFault.TheVariants.{DiskFault, Full, Memory}
use Rattle.crash_log.specs.Disk.{LeavesOnly}
use Rattle.crash_log.specs.Faults.{IsAppendFault}
use Rattle.crash_log.specs.Log.{IsLog, IsBadAt, IsNoneOrAll, HoldsLog}

-- ---- one call

-- at Ok the log that the disk held has the group of entries, and the new journal is the disk's
abbrev pub Acknowledges : {D : Type 0} (seen : D → List ℕ) (may_leave : D → List ℕ → Type 0)
    → D → ℕ → D → ℕ → List Entry → Result (Unit {0}) LogFault → Type 0
Acknowledges seen may_leave old end new end_after group answer = (text : List ℕ) (entries : List Entry)
    → HoldsLog seen may_leave old end text entries → OnOk answer (HoldsLog seen may_leave new end_after text (entries ++ group))

-- a crash at any moment of the call leaves the log that the disk held, with all of the group or with none of it
abbrev pub LeavesNoneOrAll : {D : Type 0} (seen : D → List ℕ) (may_leave : D → List ℕ → Type 0)
    (moment : D → ℕ) (left_since : D → ℕ → List ℕ → Type 0) → D → ℕ → D → List Entry → Type 0
LeavesNoneOrAll seen may_leave moment left_since old end new group = (text : List ℕ) (entries : List Entry)
    → HoldsLog seen may_leave old end text entries → LeavesOnly moment left_since old new (IsNoneOrAll text entries group)

-- a call on a log's disk: an append of a group, or of one entry, with its answer, or one that wrote nothing, as a recover that found
-- no log, a length or a read
pub data LogCall : Type 0 where
  appends : List Entry → Result (Unit {0}) LogFault → LogCall
  reads : LogCall

module _ {D : Type 0} (seen : D → List ℕ) (may_leave : D → List ℕ → Type 0) (moment : D → ℕ) (left_since : D → ℕ → List ℕ → Type 0) where
  -- what `append_all` tells, and `append` of a group of one
  pub record Appends (old : D) (end : ℕ) (new : D) (end_after : ℕ) (group : List Entry) (answer : Result (Unit {0}) LogFault) : Type 0 where
    pub acknowledged : Acknowledges seen may_leave old end new end_after group answer
    pub any_moment : LeavesNoneOrAll seen may_leave moment left_since old end new group
    pub unchanged : IsErrOf answer Full → new ≡ old
    pub unchanged_memory : IsErrOf answer Memory → new ≡ old
    pub end_same : OnErr answer (end_after ≡ end)
    pub fault : IfErr answer IsAppendFault

  -- what `recover` tells beside its answer, and each call of a disk that writes nothing
  pub record Reads (old new : D) : Type 0 where
    pub same : seen new ≡ seen old
    pub any_moment : LeavesOnly moment left_since old new (may_leave old)

  -- the disk, and the end of its journal, before the call and after it
  abbrev pub Does : LogCall → D → ℕ → D → ℕ → Type 0
  Does (appends group answer) old end new end_after = Appends old end new end_after group answer
  Does reads old end new end_after = Reads old new × (end_after ≡ end)

  -- these calls, one after the other
  abbrev pub Runs : List LogCall → D → ℕ → D → ℕ → Type 0
  Runs [] old end new end_after = (new ≡ old) × (end_after ≡ end)
  Runs (call ∷ calls) old end new end_after = (mid : D) × (at : ℕ) × Does call old end mid at × Runs calls mid at new end_after

-- ---- what a run leaves

-- nothing is appended
abbrev pub AppendsNone : List LogCall → Type 0
AppendsNone [] = Unit {0}
AppendsNone (appends group answer ∷ calls) = ⊥
AppendsNone (reads ∷ calls) = AppendsNone calls

-- behind an append that answered `DiskFault` nothing is appended: the log has to be recovered first
abbrev pub IsInTurn : List LogCall → Type 0
IsInTurn [] = Unit {0}
IsInTurn (appends group (Err DiskFault) ∷ calls) = AppendsNone calls
IsInTurn (call ∷ calls) = IsInTurn calls

-- the entries whose append answered Ok, in order
abbrev pub acknowledged : List LogCall → List Entry
acknowledged [] = []
acknowledged (appends group (Ok done) ∷ calls) = group ++ acknowledged calls
acknowledged (appends group (Err fault) ∷ calls) = acknowledged calls
acknowledged (reads ∷ calls) = acknowledged calls

-- those whose append answered `DiskFault`: of calls in turn, one group at most
abbrev pub in_doubt : List LogCall → List Entry
in_doubt [] = []
in_doubt (appends group (Err DiskFault) ∷ calls) = group ++ in_doubt calls
in_doubt (call ∷ calls) = in_doubt calls

-- a log of this text: the first entries, and those that were acknowledged since, with all of the group in doubt or
-- with none of it
abbrev pub IsKept : List ℕ → List Entry → List LogCall → List ℕ → Type 0
IsKept text first calls file = IsLog text (first ++ acknowledged calls) file ⊎ IsLog text (first ++ (acknowledged calls ++ in_doubt calls)) file

-- the file is a log of this text and these entries alone, with all of the group in doubt or with none of it, and bad at no place
pub record IsReadAs (text : List ℕ) (first : List Entry) (calls : List LogCall) (file : List ℕ) : Type 0 where
  pub not_bad : (place : ℕ) → IsBadAt file place → ⊥
  pub alone : (other : List ℕ) (entries : List Entry) → IsLog other entries file
      → (other ≡ text) × ((entries ≡ first ++ acknowledged calls) ⊎ (entries ≡ first ++ (acknowledged calls ++ in_doubt calls)))

-- what is kept is read as it was
abbrev pub KeptIsRead : Type 0
KeptIsRead = (text : List ℕ) (first : List Entry) (calls : List LogCall) (file : List ℕ) → IsKept text first calls file → IsReadAs text first calls file

module _ {D : Type 0} (seen : D → List ℕ) (may_leave : D → List ℕ → Type 0) (moment : D → ℕ) (left_since : D → ℕ → List ℕ → Type 0) where
  -- From where a disk holds a log, calls are made in turn, some of them and then others. Whatever a crash leaves since the first of
  -- these others began, inside a call too, is what is kept after the former and a front of the others.
  abbrev pub OutlivesCrashes : Type 0
  OutlivesCrashes = (text : List ℕ) (first : List Entry) (before since : List LogCall) (old mid new : D) (start middle end : ℕ)
      → HoldsLog seen may_leave old start text first → IsInTurn (before ++ since)
      → Runs seen may_leave moment left_since before old start mid middle → Runs seen may_leave moment left_since since mid middle new end
      → LeavesOnly moment left_since mid new (λ file. (n : ℕ) × IsKept text first (before ++ take n since) file)
