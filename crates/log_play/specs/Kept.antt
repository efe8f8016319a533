-- What a log keeps of the entries that are put behind it, whenever a crash comes.
use Rattle.std.specs.Prelude.{◌≡◌, ◌≤◌, ℕ, ◌+◌, ◌^◌, List, [], ◌∷◌, ◌++◌, length}
use Rattle.campaign_law.specs.declared.entry.Entry.{Entry}
use Rattle.crash_log.specs.Disk.{LeavesOnly}
use Rattle.crash_log.specs.Entries.{entry_bytes}
use Rattle.crash_log.specs.Log.{IsLog, HoldsLog}
use Rattle.script_play.specs.Played.{IsPrefix}
use Rattle.log_play.specs.declared.logged.Logged.{Logged}
use Rattle.log_play.specs.Logged.{UnlessDiskFault}

-- the file is a log of this text, of the entries from before, and then of the first of the whole, these among them
pub record HasFront (text : List ℕ) (before has whole : List Entry) (file : List ℕ) : Type 0 where
  pub more : List Entry
  pub log : IsLog text (before ++ (has ++ more)) file
  pub part : IsPrefix (has ++ more) whole

-- the log whose closed gate stands at this place has no room for the next entry of the whole behind these
pub record HasNoRoom (end : ℕ) (has whole : List Entry) : Type 0 where
  pub next : Entry
  pub is_next : IsPrefix (has ++ next ∷ []) whole
  pub far : 2 ^ 30 ≤ end + 5 + length (entry_bytes next)

-- a run put these entries, the first of the whole, behind a log with this text and the entries from before
pub record Keeps {D : Type 0} (seen : D → List ℕ) (may_leave : D → List ℕ → Type 0) (moment : D → ℕ) (left_since : D → ℕ → List ℕ → Type 0)
    (answer : Logged) (text : List ℕ) (before put whole : List Entry) (old new : D) (end : ℕ) : Type 0 where
  -- a crash at any moment of it leaves a log with those from before, and then the first of the whole
  pub any_moment : LeavesOnly moment left_since old new (HasFront text before [] whole)
  -- a crash now leaves those that were put behind it too
  pub kept : (file : List ℕ) → may_leave new file → HasFront text before put whole file
  -- and unless the disk failed, the disk holds just these
  pub holds : UnlessDiskFault answer (HoldsLog seen may_leave new end text (before ++ put))

-- whatever log the disk held at first
abbrev pub KeepsLog : {D : Type 0} (seen : D → List ℕ) (may_leave : D → List ℕ → Type 0) (moment : D → ℕ) (left_since : D → ℕ → List ℕ → Type 0)
    → Logged → (put whole : List Entry) → (old new : D) → (old_end new_end : ℕ) → Type 0
KeepsLog seen may_leave moment left_since answer put whole old new old_end new_end =
    (text : List ℕ) (before : List Entry) → HoldsLog seen may_leave old old_end text before → Keeps seen may_leave moment left_since answer text before put whole old new new_end
