-- The reading of a log: calls that change nothing, and what the bytes that were read say of a gate.
use Rattle.std.proofs.Common.{◌≡◌, ◌≤◌, ◌<◌, ◌^◌, ◌⊎◌, inr, ⊎_elim, ℕ, zero, suc, ◌+◌, ◌-◌, min, List, [], ◌∷◌, ◌++◌, length, get_or, take, drop, refl, sym, ◌∙◌, ap, arith, append_assoc, length-append, length-drop, take-append-drop, Some, None}
use Rattle.std.specs.Int.{w32, to_be_bytes, from_be_bytes}
use Rattle.std.proofs.lemmas.Nat.{from_be_bytes-to_be_bytes_4}
use Rattle.std.proofs.lemmas.List.{take_at, drop_at, drop_more, drop-drop, take_all, drop_all}
use Rattle.crash_log.specs.Disk.{Stays, Elapses}
use Rattle.crash_log.specs.Entries.{entry_bytes, entry_of, Fits, InRange}
use Rattle.crash_log.specs.Log.{sized_bytes, OpensBadRecord, IsBadGate}
use Rattle.crash_log.specs.Reading.{OnlyRead, OpensSize, HasRecord, IsGateFault, IsEntryFault, IsWantOrFault}
use Rattle.crash_log.specs.declared.faults.LogFault.{LogFault}
use Rattle.crash_log.specs.declared.faults.LogFault.TheVariants.{DiskFault, BadLog, Full, Memory}
use Rattle.campaign_law.specs.declared.entry.Entry.{Entry}
use Rattle.crash_log.proofs.Moments.{started, goes_on}
use Rattle.crash_log.proofs.EntryLaws.{read_back, two_bytes}

module _ {D : Type 0} (seen : D → List ℕ) (may_leave : D → List ℕ → Type 0) (moment : D → ℕ) (left_since : D → ℕ → List ℕ → Type 0) where
  pub read_once : (old new : D) → ((c : List ℕ) → left_since old (moment old) c → may_leave old c) → Stays seen may_leave old new → Elapses moment left_since may_leave old new → OnlyRead seen may_leave moment left_since old new
  read_once old new only_now stays time = record {
    stays = stays;
    time = goes_on moment left_since may_leave old old new (may_leave old) (started moment left_since may_leave old (may_leave old) only_now) time (λ c now. stays.no_more c now);
  }

  pub none_read : (old : D) → ((c : List ℕ) → left_since old (moment old) c → may_leave old c) → OnlyRead seen may_leave moment left_since old old
  none_read old only_now = record {
    stays = record { seen_same = refl; no_more = λ c now. now; no_fewer = λ c now. now };
    time = started moment left_since may_leave old (may_leave old) only_now;
  }

  pub then_read : (old mid new : D) → OnlyRead seen may_leave moment left_since old mid → OnlyRead seen may_leave moment left_since mid new → OnlyRead seen may_leave moment left_since old new
  then_read old mid new first second = record {
    stays = record {
      seen_same = second.stays.seen_same ∙ first.stays.seen_same;
      no_more = λ c now. first.stays.no_more c (second.stays.no_more c now);
      no_fewer = λ c now. second.stays.no_fewer c (first.stays.no_fewer c now);
    };
    time = record {
      later = omega (arith, first.time.later, second.time.later);
      each = λ c left. ⊎_elim (first.time.each c) (first.stays.no_more c) (second.time.before (moment old) c first.time.later left);
      before = λ t c le left. ⊎_elim (first.time.before t c le) (λ now. inr (first.stays.no_more c now)) (second.time.before t c (omega (arith, le, first.time.later)) left);
    };
  }

-- ---- the bytes at a gate

-- nothing is there
pub none_there : (n : ℕ) (file : List ℕ) (gate : ℕ) → n ≡ min 5 (length file - gate) → n ≡ 0 → drop gate file ≡ []
none_there n file gate is none = drop_all gate file (omega (arith, is, none))

-- the first byte of the piece is there
pub first_there : (n : ℕ) (piece rest : List ℕ) → 0 < n → 0 < length piece → 0 < length rest → take n piece ≡ take n rest → rest ≡ get_or piece 0 0 ∷ drop 1 rest
first_there (suc n) (p ∷ piece) (r ∷ rest) pos _ _ same = ap (λ (b : ℕ). b ∷ rest) (sym (heads p r (take n piece) (take n rest) same))
  where
    heads : (a b : ℕ) (x y : List ℕ) → a ∷ x ≡ b ∷ y → a ≡ b
    heads a b x y is = cc
first_there zero piece rest pos _ _ same = absurd (omega arith)
first_there (suc n) [] rest pos none _ same = absurd (omega arith)
first_there (suc n) (p ∷ piece) [] pos _ none same = absurd (omega arith)

-- five bytes are there: an open gate, and an entry's length
pub size_there : (piece rest : List ℕ) (size : ℕ) → length piece ≡ 5 → 5 ≤ length rest → take 5 piece ≡ take 5 rest → get_or piece 0 0 ≡ 1 → to_be_bytes w32 size ≡ take 4 (drop 1 piece) → OpensSize rest size
size_there piece rest size l enough same gate sized =
    let whole : piece ≡ take 5 rest = sym (take_all 5 piece (omega (arith, l))) ∙ same in
    let split : rest ≡ piece ++ drop 5 rest = sym (take-append-drop 5 rest) ∙ ap (λ (p : List ℕ). p ++ drop 5 rest) (sym whole) in
    let parts : piece ≡ get_or piece 0 0 ∷ drop 1 piece = drop_more piece 0 0 (omega (arith, l)) in
    let tail : drop 1 piece ≡ to_be_bytes w32 size = sym (take_all 4 (drop 1 piece) (omega (arith, length-drop 1 piece, l))) ∙ sym sized in
    record { behind = drop 5 rest; is = split ∙ ap (λ (p : List ℕ). p ++ drop 5 rest) (parts ∙ (λ i. gate i ∷ tail i)) }

length-sized : (e : Entry) (more : List ℕ) → length (sized_bytes e ++ more) ≡ 4 + (length (entry_bytes e) + length more)
length-sized e more = omega (arith, length-append (sized_bytes e) more, length-append (to_be_bytes w32 (length (entry_bytes e))) (entry_bytes e))

-- an open gate with fewer than four bytes behind it
pub short_bad : (rest : List ℕ) → rest ≡ 1 ∷ drop 1 rest → length rest < 5 → OpensBadRecord rest
short_bad rest is short = record { behind = drop 1 rest; is = is; bad = λ e more fits same. omega (arith, short, ap length is, ap length same, length-sized e more) }

sized_at : (size : ℕ) (behind : List ℕ) (e : Entry) (more : List ℕ) → Fits e → to_be_bytes w32 size ++ behind ≡ sized_bytes e ++ more → to_be_bytes w32 size ≡ to_be_bytes w32 (length (entry_bytes e))
sized_at size behind e more fits same =
    let whole = same ∙ append_assoc (to_be_bytes w32 (length (entry_bytes e))) (entry_bytes e) more in
    sym (take_at (to_be_bytes w32 size) behind 4 refl) ∙ ap (take 4) whole ∙ take_at (to_be_bytes w32 (length (entry_bytes e))) (entry_bytes e ++ more) 4 refl

behind_size : (size : ℕ) (behind : List ℕ) (e : Entry) (more : List ℕ) → Fits e → to_be_bytes w32 size ++ behind ≡ sized_bytes e ++ more → behind ≡ entry_bytes e ++ more
behind_size size behind e more fits same =
    let whole = same ∙ append_assoc (to_be_bytes w32 (length (entry_bytes e))) (entry_bytes e) more in
    sym (drop_at (to_be_bytes w32 size) behind 4 refl) ∙ ap (drop 4) whole ∙ drop_at (to_be_bytes w32 (length (entry_bytes e))) (entry_bytes e ++ more) 4 refl

size_is : (size : ℕ) (behind : List ℕ) (e : Entry) (more : List ℕ) → size < 2 ^ 32 → Fits e → to_be_bytes w32 size ++ behind ≡ sized_bytes e ++ more → size ≡ length (entry_bytes e)
size_is size behind e more fits4 fits same =
    sym (from_be_bytes-to_be_bytes_4 size fits4) ∙ ap (from_be_bytes w32) (sized_at size behind e more fits same) ∙ from_be_bytes-to_be_bytes_4 (length (entry_bytes e)) (omega (arith, fits.short))

-- a length that no entry has
pub size_bad : (rest : List ℕ) (size : ℕ) (behind : List ℕ) → rest ≡ 1 ∷ (to_be_bytes w32 size ++ behind) → size < 2 ^ 32 → (size < 2) ⊎ (4098 < size) → OpensBadRecord rest
size_bad rest size behind is fits4 off = record {
  behind = to_be_bytes w32 size ++ behind;
  is = is;
  bad = λ e more fits same. ⊎_elim
      (λ (few : size < 2). let at : size ≡ length (entry_bytes e) = size_is size behind e more fits4 fits same in absurd (omega (arith, at, few, two_bytes e)))
      (λ (many : 4098 < size). let at : size ≡ length (entry_bytes e) = size_is size behind e more fits4 fits same in absurd (omega (arith, at, many, fits.short)))
      off;
}

-- fewer bytes than the length says
pub cut_bad : (rest : List ℕ) (size : ℕ) → size ≤ 4098 → (opens : OpensSize rest size) → length opens.behind < size → OpensBadRecord rest
cut_bad rest size le opens short = record {
  behind = to_be_bytes w32 size ++ opens.behind;
  is = opens.is;
  bad = λ e more fits same.
      let at : size ≡ length (entry_bytes e) = size_is size opens.behind e more (omega (arith, le)) fits same in
      absurd (omega (arith, at, short, ap length (behind_size size opens.behind e more fits same), length-append (entry_bytes e) more));
}

-- bytes that are no entry's
pub no_entry_bad : (rest : List ℕ) (size : ℕ) → size ≤ 4098 → (opens : OpensSize rest size) → entry_of (take size opens.behind) ≡ None → OpensBadRecord rest
no_entry_bad rest size le opens none = record {
  behind = to_be_bytes w32 size ++ opens.behind;
  is = opens.is;
  bad = λ e more fits same.
      let at : size ≡ length (entry_bytes e) = size_is size opens.behind e more (omega (arith, le)) fits same in
      let front : take size opens.behind ≡ entry_bytes e = ap (take size) (behind_size size opens.behind e more fits same) ∙ take_at (entry_bytes e) more size (sym at) in
      let some : entry_of (take size opens.behind) ≡ Some e = ap entry_of front ∙ read_back e fits.range in
      absurd (cc (none, some));
}

-- an entry's
pub record_there : (rest : List ℕ) (size : ℕ) (opens : OpensSize rest size) (e : Entry) → Fits e → size ≡ length (entry_bytes e) → entry_bytes e ≡ take size opens.behind → HasRecord rest e
record_there rest size opens e fits at is = record {
  behind = drop size opens.behind;
  is = opens.is ∙ (λ i. 1 ∷ (to_be_bytes w32 (at i) ++ opens.behind))
      ∙ ap (λ (l : List ℕ). 1 ∷ (to_be_bytes w32 (length (entry_bytes e)) ++ l)) (sym (take-append-drop size opens.behind) ∙ ap (λ (l : List ℕ). l ++ drop size opens.behind) (sym is))
      ∙ ap (λ (l : List ℕ). 1 ∷ l) (sym (append_assoc (to_be_bytes w32 (length (entry_bytes e))) (entry_bytes e) (drop size opens.behind)));
  fits = fits;
}

-- ---- at a place of a file

pub behind_is : (file : List ℕ) (gate size : ℕ) → (opens : OpensSize (drop gate file) size) → opens.behind ≡ drop (gate + 5) file
behind_is file gate size opens = sym (sym (drop-drop 5 gate file) ∙ ap (drop 5) opens.is)

-- a chain of reads: any fault that names no place
pub no_place : (place : ℕ) (rest : List ℕ) (fault : LogFault) → IsWantOrFault fault → IsGateFault place rest fault
no_place place rest DiskFault h = tt
no_place place rest (BadLog at) h = absurd h
no_place place rest Full h = h
no_place place rest Memory h = tt

pub bad_entry : (file : List ℕ) (gate size : ℕ) (bytes : List ℕ) (fault : LogFault) → size ≤ 4098 → OpensSize (drop gate file) size → bytes ≡ take size (drop (gate + 5) file) → IsEntryFault gate bytes fault → IsGateFault gate (drop gate file) fault
bad_entry file gate size bytes DiskFault le opens is h = tt
bad_entry file gate size bytes (BadLog at) le opens is h =
    (h.0, inr (inr (no_entry_bad (drop gate file) size le opens (ap entry_of (ap (take size) (behind_is file gate size opens) ∙ sym is) ∙ h.1))))
bad_entry file gate size bytes Full le opens is h = h
bad_entry file gate size bytes Memory le opens is h = tt

pub good_entry : (file : List ℕ) (gate size : ℕ) (bytes : List ℕ) (e : Entry) → size ≤ 4098 → OpensSize (drop gate file) size → length bytes ≡ size → bytes ≡ take size (drop (gate + 5) file) → entry_bytes e ≡ bytes → InRange e → HasRecord (drop gate file) e
good_entry file gate size bytes e le opens l is written range =
    let at : size ≡ length (entry_bytes e) = sym (ap length written ∙ l) in
    record_there (drop gate file) size opens e (record { range = range; short = omega (arith, at, le) }) at (written ∙ is ∙ ap (take size) (sym (behind_is file gate size opens)))

pub cut_entry : (file : List ℕ) (gate size : ℕ) → size ≤ 4098 → OpensSize (drop gate file) size → length (drop (gate + 5) file) < size → IsBadGate gate (drop gate file)
cut_entry file gate size le opens short = inr (inr (cut_bad (drop gate file) size le opens (omega (arith, ap length (behind_is file gate size opens), short))))
