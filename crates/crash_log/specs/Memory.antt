-- A disk in memory as contracts see it: what it held at first, and each call that it did.
use Rattle.std.specs.Prelude.{◌≡◌, ◌⊎◌, ◌≤◌, ℕ, ◌+◌, List, [], ◌∷◌, ◌++◌, length, take, drop, Bool, if◌then◌else◌, Contains, IsTrue, IsSomeAnd, Option, Some, None, refl}
use Rattle.std.proofs.Common.{sym, subst, inl}
use Rattle.std.proofs.Math.Nat.{le_refl}
use Rattle.std.proofs.lemmas.List.{take_all}
use Rattle.crash_log.specs.declared.calls.Call.{Call}
use Rattle.crash_log.specs.declared.calls.Call.TheVariants.{Asked, Wrote, Synced}
use Rattle.line_io.specs.Counts.{next_count}
use Rattle.crash_log.specs.Disk.{Torn, Stays, Elapses}

-- what a read gives, what the last sync made sure of, and the ranges that were written since, the newest first
pub record FileState : Type 0 where
  pub seen : List ℕ
  pub synced : List ℕ
  pub pending : List (ℕ × ℕ)

-- as after a sync
abbrev pub settled : List ℕ → FileState
settled bytes = record { seen = bytes; synced = bytes; pending = [] }

-- what a read gives of the bytes at first, or of those that they became
abbrev pub current : List ℕ → Option (List ℕ) → List ℕ
current start None = start
current start (Some changed) = changed

-- with these bytes at that place
abbrev pub overlaid : List ℕ → ℕ → List ℕ → List ℕ
overlaid old at bytes = take at old ++ (bytes ++ drop (at + length bytes) old)

abbrev pub after_call : Call → FileState → FileState
after_call Asked s = s
after_call (Wrote at bytes) s = record { seen = overlaid s.seen at bytes; synced = s.synced; pending = (at, length bytes) ∷ s.pending }
after_call Synced s = record { seen = s.seen; synced = s.seen; pending = [] }

-- after these calls, the first of them first
unfoldable pub after_calls : List Call → FileState → FileState
after_calls [] s = s
after_calls (call ∷ calls) s = after_calls calls (after_call call s)

-- what the torn writes may make of the synced bytes
abbrev pub Reaches : List ℕ → List (ℕ × ℕ) → List ℕ → Type 0
Reaches synced [] c = c ≡ synced
Reaches synced (w ∷ earlier) c = (d : List ℕ) × Reaches synced earlier d × Torn w.0 w.1 d c

-- what a crash in this state may leave
abbrev pub IsImage : FileState → List ℕ → Type 0
IsImage s c = (c ≡ s.seen) ⊎ Reaches s.synced s.pending c

-- the disk: its bytes at first, its calls, which of them are to fail, and the counts
pub record MemoryDisk : Type 0 where
  pub start : List ℕ
  pub calls : List Call
  pub failing : List ℕ
  pub stop : Option ℕ
  pub made : ℕ
  pub faults : ℕ

abbrev pub state_of : MemoryDisk → FileState
state_of d = after_calls d.calls (settled d.start)

abbrev pub state_at : MemoryDisk → ℕ → FileState
state_at d k = after_calls (take k d.calls) (settled d.start)

-- what a crash from that moment on may have left
pub record LeftSince (d : MemoryDisk) (t : ℕ) (c : List ℕ) : Type 0 where
  pub k : ℕ
  pub from : t ≤ k
  pub to : k ≤ length d.calls
  pub image : IsImage (state_at d k) c

-- the clock goes on
abbrev pub Passes : MemoryDisk → MemoryDisk → Type 0
Passes old new = Elapses (λ d. length d.calls) (λ d t c. LeftSince d t c) (λ d c. IsImage (state_of d) c) old new

-- what a read gives and what a crash may leave stay
abbrev pub IsLeftAs : MemoryDisk → MemoryDisk → Type 0
IsLeftAs old new = Stays (λ d. (state_of d).seen) (λ d c. IsImage (state_of d) c) old new

-- the call of this number is to fail
abbrev pub IsDue : List ℕ → Option ℕ → ℕ → Type 0
IsDue failing stop number = Contains failing number ⊎ IsSomeAnd stop (λ first. first ≤ number)

-- one more call was made, which failed or not; one that is to fail did
pub record HasCalled (old new : MemoryDisk) (failed : Bool) : Type 0 where
  pub due : IsDue old.failing old.stop old.made → IsTrue failed
  pub made : new.made ≡ next_count old.made
  pub faults : new.faults ≡ (if failed then next_count old.faults else old.faults)
  pub failing : new.failing ≡ old.failing
  pub stop : new.stop ≡ old.stop

pub counts_now : (d : MemoryDisk) (t : ℕ) (c : List ℕ) → t ≤ length d.calls → IsImage (state_of d) c → LeftSince d t c
counts_now d t c le image = record {
  k = length d.calls;
  from = le;
  to = le_refl (length d.calls);
  image = subst (λ (calls : List Call). IsImage (after_calls calls (settled d.start)) c) (sym (take_all (length d.calls) d.calls (le_refl (length d.calls)))) image;
}

pub only_now : (d : MemoryDisk) (c : List ℕ) → LeftSince d (length d.calls) c → IsImage (state_of d) c
only_now d c left = subst (λ (calls : List Call). IsImage (after_calls calls (settled d.start)) c) (take_all left.k d.calls left.from) left.image

pub seen_may_stay : (d : MemoryDisk) → IsImage (state_of d) (state_of d).seen
seen_may_stay d = inl refl
