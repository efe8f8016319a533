-- What a log keeps of a run behind a run.
use Rattle.std.proofs.Common.{◌≡◌, ℕ, ◌+◌, ◌≤◌, ◌^◌, List, [], ◌∷◌, ◌++◌, length, refl, sym, ◌∙◌, ap, subst, append_assoc, inl, inr}
use Rattle.std.proofs.lemmas.List.{append-nil}
use Rattle.campaign_law.specs.declared.entry.Entry.{Entry}
use Rattle.crash_log.specs.Disk.{LeavesOnly}
use Rattle.crash_log.specs.Entries.{entry_bytes}
use Rattle.crash_log.specs.Log.{IsLog, HoldsLog, IsDisks, IsBeforeOrAfter}
use Rattle.crash_log.proofs.Moments.{started, leaves_then, leaves_weaker}
use Rattle.script_play.specs.Played.{IsPrefix}
use Rattle.script_play.proofs.Fronts.{prefix_all, prefix_part, prefix_behind, prefix_before}
use Rattle.log_play.specs.declared.logged.Logged.{Logged}
use Rattle.log_play.specs.declared.logged.Logged.TheVariants.{Done, ReadFault, WriteFault, BadLine, TooLarge, DiskFault, Full, Memory}
use Rattle.log_play.specs.Logged.{UnlessDiskFault}
use Rattle.log_play.specs.Kept.{HasFront, HasNoRoom, Keeps, KeepsLog}

-- ---- fronts

pub prefix_on : {A : Type 0} (front middle whole : List A) → IsPrefix front middle → IsPrefix middle whole → IsPrefix front whole
prefix_on front middle whole a b = subst (IsPrefix front) (sym b.is) (prefix_before b.rest a)

front_wider : (text : List ℕ) (before has whole wider : List Entry) (file : List ℕ) → IsPrefix whole wider → HasFront text before has whole file → HasFront text before has wider file
front_wider text before has whole wider file p h = record { more = h.more; log = h.log; part = prefix_on (has ++ h.more) whole wider h.part p }

-- of entries that were put behind others
front_behind : (text : List ℕ) (before xs ys whole : List Entry) (file : List ℕ) → HasFront text (before ++ xs) ys whole file → HasFront text before (xs ++ ys) (xs ++ whole) file
front_behind text before xs ys whole file h = record {
  more = h.more;
  log = subst (λ (es : List Entry). IsLog text es file) (append_assoc before xs (ys ++ h.more) ∙ ap (λ es. before ++ es) (sym (append_assoc xs ys h.more))) h.log;
  part = subst (λ (es : List Entry). IsPrefix es (xs ++ whole)) (sym (append_assoc xs ys h.more)) (prefix_behind xs h.part);
}

-- with none that have to be there
front_any : (text : List ℕ) (before has whole : List Entry) (file : List ℕ) → HasFront text before has whole file → HasFront text before [] whole file
front_any text before has whole file h = record { more = has ++ h.more; log = h.log; part = h.part }

-- a log with nothing behind it
front_none : (text : List ℕ) (before whole : List Entry) (file : List ℕ) → IsLog text before file → HasFront text before [] whole file
front_none text before whole file h = record {
  more = [];
  log = subst (λ (es : List Entry). IsLog text es file) (sym (append-nil before)) h;
  part = record { rest = whole; is = refl };
}

front_one : (text : List ℕ) (before : List Entry) (e : Entry) (file : List ℕ) → IsBeforeOrAfter text before e file → HasFront text before [] (e ∷ []) file
front_one text before e file (inl h) = front_none text before (e ∷ []) file h
front_one text before e file (inr h) = record { more = e ∷ []; log = h; part = prefix_all (e ∷ []) }

unless : (answer : Logged) (P : Type 0) → P → UnlessDiskFault answer P
unless Done P p = p
unless ReadFault P p = p
unless WriteFault P p = p
unless (BadLine number) P p = p
unless TooLarge P p = p
unless DiskFault P p = tt
unless Full P p = p
unless Memory P p = p

-- ---- a run

module _ {D : Type 0} (seen : D → List ℕ) (may_leave : D → List ℕ → Type 0) (moment : D → ℕ) (left_since : D → ℕ → List ℕ → Type 0) where
  -- a run behind one that was done
  pub keeps_behind : (answer : Logged) (text : List ℕ) (before xs ys whole : List Entry) (old mid new : D) (mid_end new_end : ℕ)
      → Keeps seen may_leave moment left_since Done text before xs xs old mid mid_end
      → Keeps seen may_leave moment left_since answer text (before ++ xs) ys whole mid new new_end
      → Keeps seen may_leave moment left_since answer text before (xs ++ ys) (xs ++ whole) old new new_end
  keeps_behind answer text before xs ys whole old mid new mid_end new_end first second = record {
    any_moment = leaves_then moment left_since may_leave old mid new (HasFront text before [] (xs ++ whole)) (HasFront text (before ++ xs) [] whole)
        (leaves_weaker moment left_since may_leave old mid (HasFront text before [] (xs ++ whole)) (HasFront text before [] xs) first.any_moment (λ c h. front_wider text before [] xs (xs ++ whole) c (prefix_part xs whole) h))
        second.any_moment
        (λ c h. front_any text before (xs ++ []) (xs ++ whole) c (front_behind text before xs [] whole c h));
    kept = λ c left. front_behind text before xs ys whole c (second.kept c left);
    holds = subst (λ (es : List Entry). UnlessDiskFault answer (HoldsLog seen may_leave new new_end text es)) (append_assoc before xs ys) second.holds;
  }

  pub keeps_then : (answer : Logged) (xs ys whole : List Entry) (old mid new : D) (old_end mid_end new_end : ℕ)
      → KeepsLog seen may_leave moment left_since Done xs xs old mid old_end mid_end
      → KeepsLog seen may_leave moment left_since answer ys whole mid new mid_end new_end
      → KeepsLog seen may_leave moment left_since answer (xs ++ ys) (xs ++ whole) old new old_end new_end
  keeps_then answer xs ys whole old mid new old_end mid_end new_end a b text before holds =
      let first = a text before holds in
      keeps_behind answer text before xs ys whole old mid new mid_end new_end first (b text (before ++ xs) first.holds)

  -- of more entries that may come
  pub keeps_wider : (answer : Logged) (text : List ℕ) (before put whole wider : List Entry) (old new : D) (end : ℕ) → IsPrefix whole wider
      → Keeps seen may_leave moment left_since answer text before put whole old new end
      → Keeps seen may_leave moment left_since answer text before put wider old new end
  keeps_wider answer text before put whole wider old new end p k = record {
    any_moment = leaves_weaker moment left_since may_leave old new (HasFront text before [] wider) (HasFront text before [] whole) k.any_moment (λ c h. front_wider text before [] whole wider c p h);
    kept = λ c left. front_wider text before put whole wider c p (k.kept c left);
    holds = k.holds;
  }

  pub keeps_log_wider : (answer : Logged) (put whole wider : List Entry) (old new : D) (old_end new_end : ℕ) → IsPrefix whole wider
      → KeepsLog seen may_leave moment left_since answer put whole old new old_end new_end
      → KeepsLog seen may_leave moment left_since answer put wider old new old_end new_end
  keeps_log_wider answer put whole wider old new old_end new_end p k text before holds = keeps_wider answer text before put whole wider old new new_end p (k text before holds)

  -- the same entries
  pub keeps_same : (answer : Logged) (put put' whole whole' : List Entry) (old new : D) (old_end new_end : ℕ) → put ≡ put' → whole ≡ whole'
      → KeepsLog seen may_leave moment left_since answer put whole old new old_end new_end
      → KeepsLog seen may_leave moment left_since answer put' whole' old new old_end new_end
  keeps_same answer put put' whole whole' old new old_end new_end p q k = subst (λ (es : List Entry). KeepsLog seen may_leave moment left_since answer put' es old new old_end new_end) q
      (subst (λ (es : List Entry). KeepsLog seen may_leave moment left_since answer es whole old new old_end new_end) p k)

  -- nothing was put
  pub keeps_nothing : (answer : Logged) (put whole : List Entry) (disk : D) (end : ℕ) → put ≡ [] → ((c : List ℕ) → left_since disk (moment disk) c → may_leave disk c)
      → KeepsLog seen may_leave moment left_since answer put whole disk disk end end
  keeps_nothing answer put whole disk end none only_now =
      keeps_same answer [] put whole whole disk disk end end (sym none) refl (λ text before holds.
      let here : (c : List ℕ) → may_leave disk c → HasFront text before [] whole c = λ c left. front_none text before whole c (subst (IsLog text before) (sym (holds.durable c left)) holds.log) in
      record {
        any_moment = started moment left_since may_leave disk (HasFront text before [] whole) (λ c left. here c (only_now c left));
        kept = here;
        holds = unless answer (HoldsLog seen may_leave disk end text (before ++ [])) (subst (λ (es : List Entry). HoldsLog seen may_leave disk end text es) (sym (append-nil before)) holds);
      })

  -- an entry was put
  pub keeps_entry : (text : List ℕ) (before : List Entry) (e : Entry) (old new : D) (new_end : ℕ)
      → HoldsLog seen may_leave new new_end text (before ++ e ∷ []) → LeavesOnly moment left_since old new (IsBeforeOrAfter text before e)
      → Keeps seen may_leave moment left_since Done text before (e ∷ []) (e ∷ []) old new new_end
  keeps_entry text before e old new new_end holds run = record {
    any_moment = leaves_weaker moment left_since may_leave old new (HasFront text before [] (e ∷ [])) (IsBeforeOrAfter text before e) run (λ c h. front_one text before e c h);
    kept = λ c left. record { more = []; log = subst (IsLog text (before ++ e ∷ [])) (sym (holds.durable c left)) holds.log; part = prefix_all (e ∷ []) };
    holds = holds;
  }

  -- the disk failed
  pub keeps_fault : (text : List ℕ) (before : List Entry) (e : Entry) (old new : D) (new_end : ℕ)
      → LeavesOnly moment left_since old new (IsBeforeOrAfter text before e) → ((c : List ℕ) → moment old ≤ moment new → may_leave new c → left_since new (moment old) c)
      → Keeps seen may_leave moment left_since DiskFault text before [] (e ∷ []) old new new_end
  keeps_fault text before e old new new_end run counts = record {
    any_moment = leaves_weaker moment left_since may_leave old new (HasFront text before [] (e ∷ [])) (IsBeforeOrAfter text before e) run (λ c h. front_one text before e c h);
    kept = λ c left. front_one text before e c (run.each c (counts c run.later left));
    holds = tt;
  }

  -- the journal is still the disk's
  pub still_disks : (put whole : List Entry) (old new : D) (old_end new_end : ℕ) → IsDisks seen may_leave old old_end
      → KeepsLog seen may_leave moment left_since Done put whole old new old_end new_end
      → IsDisks seen may_leave new new_end
  still_disks put whole old new old_end new_end d k = record { text = d.text; entries = d.entries ++ put; holds = (k d.text d.entries d.holds).holds }

-- ---- a log without room

pub room_behind : (end : ℕ) (xs ys whole : List Entry) → HasNoRoom end ys whole → HasNoRoom end (xs ++ ys) (xs ++ whole)
room_behind end xs ys whole h = record {
  next = h.next;
  is_next = subst (λ (es : List Entry). IsPrefix es (xs ++ whole)) (sym (append_assoc xs ys (h.next ∷ []))) (prefix_behind xs h.is_next);
  far = h.far;
}

pub room_wider : (end : ℕ) (put whole wider : List Entry) → IsPrefix whole wider → HasNoRoom end put whole → HasNoRoom end put wider
room_wider end put whole wider p h = record { next = h.next; is_next = prefix_on (put ++ h.next ∷ []) whole wider h.is_next p; far = h.far }

pub room_one : (end : ℕ) (put : List Entry) (e : Entry) → put ≡ [] → 2 ^ 30 ≤ end + 5 + length (entry_bytes e) → HasNoRoom end put (e ∷ [])
room_one end put e none far = record { next = e; is_next = subst (λ (es : List Entry). IsPrefix (es ++ e ∷ []) (e ∷ [])) (sym none) (prefix_all (e ∷ [])); far = far }
