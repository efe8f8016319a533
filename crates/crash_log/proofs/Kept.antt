-- One more call joins those that a disk in memory did.
use Rattle.std.proofs.Common.{◌≡◌, inl, inr, ⊎_elim, ℕ, ◌+◌, ◌-◌, ◌≤◌, List, [], ◌∷◌, ◌++◌, length, take, drop, refl, sym, ◌∙◌, ap, subst, arith, append_assoc, length-append, length-drop}
use Rattle.std.proofs.lemmas.Bool.{cases_lt}
use Rattle.std.proofs.lemmas.List.{take_at, drop_at, take-append-le, length-take}
use Rattle.crash_log.specs.Disk.{Torn, Holds, Follows, Only, NoMore}
use Rattle.crash_log.specs.Memory.{FileState, MemoryDisk, settled, overlaid, after_call, after_calls, Reaches, IsImage, state_of, state_at, Passes, IsLeftAs, only_now}
use Rattle.crash_log.specs.declared.calls.Call.{Call}
use Rattle.crash_log.proofs.Crash.{torn_refl}
use Rattle.crash_log.specs.declared.calls.Call.TheVariants.{Asked, Wrote, Synced}

pub after_calls-push : (calls : List Call) (call : Call) (s : FileState) → after_calls (calls ++ call ∷ []) s ≡ after_call call (after_calls calls s)
unfolding after_calls
after_calls-push [] call s = refl
after_calls-push (first ∷ calls) call s = after_calls-push calls call (after_call first s)

module _ (d new : MemoryDisk) (start : new.start ≡ d.start) where
  pub passes_same : new.calls ≡ d.calls → Passes d new
  passes_same calls = record {
    later = omega (arith, ap length calls);
    nothing_else = λ t c le left. inl (record { k = left.k; from = left.from; to = omega (arith, left.to, ap length calls); image = subst (λ s. IsImage s c) (at_k left.k) left.image });
    keeps = λ t c le left. record { k = left.k; from = left.from; to = omega (arith, left.to, ap length calls); image = subst (λ s. IsImage s c) (sym (at_k left.k)) left.image };
  }
    where
      at_k : (k : ℕ) → state_at new k ≡ state_at d k
      at_k k = λ i. after_calls (take k (calls i)) (settled (start i))

  pub stays_same : new.calls ≡ d.calls → IsLeftAs d new
  stays_same calls = record {
    seen_same = ap (λ (s : FileState). s.seen) same;
    no_more = λ c image. subst (λ s. IsImage s c) same image;
    no_fewer = λ c image. subst (λ s. IsImage s c) (sym same) image;
  }
    where
      same : state_of new ≡ state_of d
      same = λ i. after_calls (calls i) (settled (start i))

  module _ (call : Call) (calls : new.calls ≡ d.calls ++ call ∷ []) where
    pub state_after : state_of new ≡ after_call call (state_of d)
    state_after = (λ i. after_calls (calls i) (settled (start i))) ∙ after_calls-push d.calls call (settled d.start)

    one_more : length new.calls ≡ length d.calls + 1
    one_more = omega (arith, ap length calls, length-append d.calls (call ∷ []))

    at_k : (k : ℕ) → k ≤ length d.calls → state_at new k ≡ state_at d k
    at_k k le = (λ i. after_calls (take k (calls i)) (settled (start i))) ∙ ap (λ (l : List Call). after_calls l (settled d.start)) (take-append-le k d.calls (call ∷ []) le)

    pub passes_push : Passes d new
    passes_push = record {
      later = omega (arith, one_more);
      nothing_else = λ t c le left. elim (cases_lt (length d.calls) left.k) [
        | inl past ↦ inr (only_now new c (record { k = left.k; from = omega (arith, past, one_more); to = left.to; image = left.image }))
        | inr within ↦ inl (record { k = left.k; from = left.from; to = within; image = subst (λ s. IsImage s c) (at_k left.k within) left.image })
      ];
      keeps = λ t c le left. record { k = left.k; from = left.from; to = omega (arith, left.to, one_more); image = subst (λ s. IsImage s c) (sym (at_k left.k left.to)) left.image };
    }

  pub stays_asked : new.calls ≡ d.calls ++ Asked ∷ [] → IsLeftAs d new
  stays_asked calls = record {
    seen_same = ap (λ (s : FileState). s.seen) (state_after Asked calls);
    no_more = λ c image. subst (λ s. IsImage s c) (state_after Asked calls) image;
    no_fewer = λ c image. subst (λ s. IsImage s c) (sym (state_after Asked calls)) image;
  }

  pub only_synced : new.calls ≡ d.calls ++ Synced ∷ [] → Only (state_of new).seen (λ c. IsImage (state_of new) c)
  only_synced calls c image = subst (λ (s : FileState). IsImage s c → c ≡ s.seen) (sym (state_after Synced calls)) (⊎_elim (λ now. now) (λ synced. synced)) image

  pub seen_synced : new.calls ≡ d.calls ++ Synced ∷ [] → (state_of new).seen ≡ (state_of d).seen
  seen_synced calls = ap (λ (s : FileState). s.seen) (state_after Synced calls)

  pub no_more_synced : new.calls ≡ d.calls ++ Synced ∷ [] → NoMore (λ c. IsImage (state_of new) c) (λ c. IsImage (state_of d) c)
  no_more_synced calls c image = inl (only_synced calls c image ∙ seen_synced calls)

-- ---- a write

torn_overlaid : (old : List ℕ) (at : ℕ) (bytes : List ℕ) → at ≤ length old → Torn at (length bytes) old (overlaid old at bytes)
torn_overlaid old at bytes le = record {
  before = take_at (take at old) (bytes ++ drop (at + length bytes) old) at front;
  after = ap (drop (at + length bytes)) (sym (append_assoc (take at old) bytes (drop (at + length bytes) old)))
      ∙ drop_at (take at old ++ bytes) (drop (at + length bytes) old) (at + length bytes) (omega (arith, front, length-append (take at old) bytes));
  no_shorter = omega (arith, long);
  no_longer = omega (arith, long);
}
  where
    front : length (take at old) ≡ at
    front = omega (arith, length-take at old)

    long : length (overlaid old at bytes) ≡ at + (length bytes + (length old - (at + length bytes)))
    long = omega (arith, front, length-append (take at old) (bytes ++ drop (at + length bytes) old), length-append bytes (drop (at + length bytes) old), length-drop (at + length bytes) old)

module _ (d new : MemoryDisk) (start : new.start ≡ d.start) (at : ℕ) (bytes : List ℕ) (calls : new.calls ≡ d.calls ++ Wrote at bytes ∷ []) where
  pub wrote_there : Holds (state_of d).seen at bytes (state_of new).seen
  wrote_there = ap (λ (s : FileState). s.seen) (state_after d new start (Wrote at bytes) calls)

  pub wrote_torn : at ≤ length (state_of d).seen → Follows (Torn at (length bytes)) (λ c. IsImage (state_of d) c) (λ c. IsImage (state_of new) c)
  wrote_torn le c image = follows (subst (λ s. IsImage s c) (state_after d new start (Wrote at bytes) calls) image)
    where
      follows : IsImage (after_call (Wrote at bytes) (state_of d)) c → (old : List ℕ) × IsImage (state_of d) old × Torn at (length bytes) old c
      follows (inl now) = ((state_of d).seen, inl refl, subst (λ f. Torn at (length bytes) (state_of d).seen f) (sym now) (torn_overlaid (state_of d).seen at bytes le))
      follows (inr from) = (from.0, inr from.1, from.2)

  pub seen_wrote : (state_of new).seen ≡ overlaid (state_of d).seen at bytes
  seen_wrote = wrote_there

-- ---- what a read gives is what the calls come to

pub inv_push : (start : List ℕ) (old new : List Call) (call : Call) (seen : List ℕ) → new ≡ old ++ call ∷ [] → seen ≡ (after_call call (after_calls old (settled start))).seen → seen ≡ (after_calls new (settled start)).seen
inv_push start old new call seen is seen_is = seen_is ∙ ap (λ (s : FileState). s.seen) (sym (after_calls-push old call (settled start))) ∙ ap (λ (l : List Call). (after_calls l (settled start)).seen) (sym is)

pub inv_wrote : (start : List ℕ) (old new : List Call) (at : ℕ) (bytes before seen : List ℕ) → new ≡ old ++ Wrote at bytes ∷ [] → before ≡ (after_calls old (settled start)).seen → seen ≡ overlaid before at bytes → seen ≡ (after_calls new (settled start)).seen
inv_wrote start old new at bytes before seen is before_is seen_is = inv_push start old new (Wrote at bytes) seen is (seen_is ∙ ap (λ (l : List ℕ). overlaid l at bytes) before_is)

pub inv_none : (start : List ℕ) (calls : List Call) → calls ≡ [] → start ≡ (after_calls calls (settled start)).seen
unfolding after_calls
inv_none start calls is = sym (ap (λ (l : List Call). (after_calls l (settled start)).seen) is)

-- ---- what is safe

pub step_more : (start : List ℕ) (front next : List Call) (call : Call) (seen safe seen_new safe_new : List ℕ) → next ≡ front ++ call ∷ [] → seen ≡ (after_calls front (settled start)).seen → safe ≡ (after_calls front (settled start)).synced
    → ((ranges : List (ℕ × ℕ)) → seen_new ≡ (after_call call (record { seen = seen; synced = safe; pending = ranges })).seen)
    → ((ranges : List (ℕ × ℕ)) → safe_new ≡ (after_call call (record { seen = seen; synced = safe; pending = ranges })).synced)
    → (seen_new ≡ (after_calls next (settled start)).seen) × (safe_new ≡ (after_calls next (settled start)).synced)
step_more start front next call seen safe seen_new safe_new next_is seen_is safe_is to_seen to_safe =
    let s = after_calls front (settled start) in
    let now : after_calls next (settled start) ≡ after_call call s = ap (λ (l : List Call). after_calls l (settled start)) next_is ∙ after_calls-push front call (settled start) in (
      to_seen s.pending ∙ (λ i. (after_call call (record { seen = seen_is i; synced = safe_is i; pending = s.pending })).seen) ∙ sym (ap (λ (x : FileState). x.seen) now),
      to_safe s.pending ∙ (λ i. (after_call call (record { seen = seen_is i; synced = safe_is i; pending = s.pending })).synced) ∙ sym (ap (λ (x : FileState). x.synced) now),
    )

pub starts_safe : (start : List ℕ) → (start ≡ (after_calls [] (settled start)).seen) × (start ≡ (after_calls [] (settled start)).synced)
unfolding after_calls
starts_safe start = (refl, refl)

pub reaches_safe : (synced : List ℕ) (pending : List (ℕ × ℕ)) → Reaches synced pending synced
reaches_safe synced [] = refl
reaches_safe synced (w ∷ pending) = (synced, reaches_safe synced pending, torn_refl w.0 w.1 synced)

pub safe_image : (s : FileState) (c : List ℕ) → c ≡ s.synced → IsImage s c
safe_image s c is = inr (subst (Reaches s.synced s.pending) (sym is) (reaches_safe s.synced s.pending))
