-- Whatever a crash leaves in a run of calls on a log.
use Rattle.std.proofs.Common.{◌≡◌, ◌≤◌, inl, inr, ⊎_elim, ℕ, suc, List, [], ◌∷◌, ◌++◌, take, refl, sym, ◌∙◌, ap, subst, append_assoc, Ok, Err}
use Rattle.std.proofs.lemmas.List.{append-nil}
use Rattle.campaign_law.specs.declared.entry.Entry.{Entry}
use Rattle.crash_log.specs.declared.faults.LogFault.TheVariants.{DiskFault, BadLog, Full, Memory}
use Rattle.crash_log.specs.Disk.{LeavesOnly}
use Rattle.crash_log.specs.Log.{IsLog, IsNoneOrAll, HoldsLog}
use Rattle.crash_log.specs.Runs.{LogCall, appends, reads, Reads, Runs, AppendsNone, IsInTurn, acknowledged, in_doubt, IsKept, KeptIsRead, OutlivesCrashes}
use Rattle.crash_log.proofs.LogLaws.{log_same, log_not_bad}
use Rattle.crash_log.proofs.Moments.{started, leaves_then, leaves_weaker}

-- ---- calls that append nothing

acknowledged-none : (calls : List LogCall) → AppendsNone calls → acknowledged calls ≡ []
acknowledged-none [] none = refl
acknowledged-none (appends group answer ∷ calls) none = absurd none
acknowledged-none (reads ∷ calls) none = acknowledged-none calls none

in_doubt-none : (calls : List LogCall) → AppendsNone calls → in_doubt calls ≡ []
in_doubt-none [] none = refl
in_doubt-none (appends group answer ∷ calls) none = absurd none
in_doubt-none (reads ∷ calls) none = in_doubt-none calls none

none_first : (before since : List LogCall) → AppendsNone (before ++ since) → AppendsNone before
none_first [] since none = tt
none_first (appends group answer ∷ before) since none = none
none_first (reads ∷ before) since none = none_first before since none

none_then : (before since : List LogCall) → AppendsNone (before ++ since) → AppendsNone since
none_then [] since none = none
none_then (appends group answer ∷ before) since none = absurd none
none_then (reads ∷ before) since none = none_then before since none

-- ---- what is kept

kept_first : (text : List ℕ) (first : List Entry) (file : List ℕ) → IsLog text first file → IsKept text first [] file
kept_first text first file log = inl (subst (λ (es : List Entry). IsLog text es file) (sym (append-nil first)) log)

kept_more : (text : List ℕ) (first group : List Entry) (done : Unit {0}) (calls : List LogCall) (file : List ℕ) → IsKept text (first ++ group) calls file → IsKept text first (appends group (Ok done) ∷ calls) file
kept_more text first group done calls file (inl log) = inl (subst (λ (es : List Entry). IsLog text es file) (append_assoc first group (acknowledged calls)) log)
kept_more text first group done calls file (inr log) = inr (subst (λ (es : List Entry). IsLog text es file) (append_assoc first group (acknowledged calls ++ in_doubt calls) ∙ ap (λ (es : List Entry). first ++ es) (sym (append_assoc group (acknowledged calls) (in_doubt calls)))) log)

kept_in_doubt : (text : List ℕ) (first group : List Entry) (calls : List LogCall) (file : List ℕ) → AppendsNone calls → IsNoneOrAll text first group file → IsKept text first (appends group (Err DiskFault) ∷ calls) file
kept_in_doubt text first group calls file none (inl log) = inl (subst (λ (es : List Entry). IsLog text es file) (sym (ap (λ (es : List Entry). first ++ es) (acknowledged-none calls none) ∙ append-nil first)) log)
kept_in_doubt text first group calls file none (inr log) = inr (subst (λ (es : List Entry). IsLog text es file) (sym ((λ i. first ++ (acknowledged-none calls none i ++ (group ++ in_doubt-none calls none i))) ∙ ap (λ (es : List Entry). first ++ es) (append-nil group))) log)

-- what is kept is read as it was
pub kept_is_read : KeptIsRead
kept_is_read text first calls file (inl log) = record {
  not_bad = λ place. log_not_bad text (first ++ acknowledged calls) file place log;
  alone = λ other entries is. let same = log_same other text entries (first ++ acknowledged calls) file is log in (same.0, inl same.1);
}
kept_is_read text first calls file (inr log) = record {
  not_bad = λ place. log_not_bad text (first ++ (acknowledged calls ++ in_doubt calls)) file place log;
  alone = λ other entries is. let same = log_same other text entries (first ++ (acknowledged calls ++ in_doubt calls)) file is log in (same.0, inr same.1);
}

-- ---- runs

module _ {D : Type 0} (seen : D → List ℕ) (may_leave : D → List ℕ → Type 0) (moment : D → ℕ) (left_since : D → ℕ → List ℕ → Type 0)
    (counts_now : (disk : D) (t : ℕ) (c : List ℕ) → t ≤ moment disk → may_leave disk c → left_since disk t c)
    (only_now : (disk : D) (c : List ℕ) → left_since disk (moment disk) c → may_leave disk c) where
  -- what a crash may leave now is among what it may have left
  left_now : (old new : D) (P : List ℕ → Type 0) → LeavesOnly moment left_since old new P → (c : List ℕ) → may_leave new c → P c
  left_now old new P run c now = run.each c (counts_now new (moment old) c run.later now)

  still_held : (text : List ℕ) (entries : List Entry) (old new : D) (end : ℕ) → Reads seen may_leave moment left_since old new → HoldsLog seen may_leave old end text entries → HoldsLog seen may_leave new end text entries
  still_held text entries old new end read holds = record {
    log = subst (IsLog text entries) (sym read.same) holds.log;
    end_at = holds.end_at;
    durable = λ c now. holds.durable c (left_now old new (may_leave old) read.any_moment c now) ∙ sym read.same;
  }

  held_at : (text : List ℕ) (entries : List Entry) (old new : D) (end at : ℕ) → new ≡ old → at ≡ end → HoldsLog seen may_leave old end text entries → HoldsLog seen may_leave new at text entries
  held_at text entries old new end at disk_is end_is holds =
      subst (λ d. HoldsLog seen may_leave d at text entries) (sym disk_is) (subst (λ (n : ℕ). HoldsLog seen may_leave old n text entries) (sym end_is) holds)

  quiet : (calls : List LogCall) (old new : D) (start end : ℕ) → AppendsNone calls → Runs seen may_leave moment left_since calls old start new end → LeavesOnly moment left_since old new (may_leave old)
  quiet [] old new start end none run = subst (λ d. LeavesOnly moment left_since old d (may_leave old)) (sym run.0) (started moment left_since may_leave old (may_leave old) (only_now old))
  quiet (appends group answer ∷ calls) old new start end none run = absurd none
  quiet (reads ∷ calls) old new start end none run =
      leaves_then moment left_since may_leave old run.0 new (may_leave old) (may_leave run.0) run.2.0.any_moment (quiet calls run.0 new run.1 end none run.3)
      (left_now old run.0 (may_leave old) run.2.0.any_moment)

  -- from where the disk holds the log
  from_held : (text : List ℕ) (first : List Entry) (calls : List LogCall) (old new : D) (start end : ℕ) → HoldsLog seen may_leave old start text first → IsInTurn calls
      → Runs seen may_leave moment left_since calls old start new end → LeavesOnly moment left_since old new (λ file. (n : ℕ) × IsKept text first (take n calls) file)
  from_held text first [] old new start end holds turn run =
      subst (λ d. LeavesOnly moment left_since old d (λ file. (n : ℕ) × IsKept text first (take n []) file)) (sym run.0)
      (started moment left_since may_leave old (λ file. (n : ℕ) × IsKept text first (take n []) file)
      (λ c left. (0, kept_first text first c (subst (IsLog text first) (sym (holds.durable c (only_now old c left))) holds.log))))
  from_held text first (appends group (Ok done) ∷ calls) old new start end holds turn run =
      leaves_then moment left_since may_leave old run.0 new (λ file. (n : ℕ) × IsKept text first (take n (appends group (Ok done) ∷ calls)) file)
      (λ file. (n : ℕ) × IsKept text (first ++ group) (take n calls) file)
      (leaves_weaker moment left_since may_leave old run.0 (λ file. (n : ℕ) × IsKept text first (take n (appends group (Ok done) ∷ calls)) file) (IsNoneOrAll text first group) (run.2.any_moment text first holds)
      (λ c. ⊎_elim (λ log. (0, kept_first text first c log)) (λ log. (1, kept_more text first group done [] c (kept_first text (first ++ group) c log)))))
      (from_held text (first ++ group) calls run.0 new run.1 end (run.2.acknowledged text first holds) turn run.3)
      (λ c kept. (suc kept.0, kept_more text first group done (take kept.0 calls) c kept.1))
  from_held text first (appends group (Err DiskFault) ∷ calls) old new start end holds turn run =
      leaves_weaker moment left_since may_leave old new (λ file. (n : ℕ) × IsKept text first (take n (appends group (Err DiskFault) ∷ calls)) file) (IsNoneOrAll text first group)
      (leaves_then moment left_since may_leave old run.0 new (IsNoneOrAll text first group) (may_leave run.0) (run.2.any_moment text first holds) (quiet calls run.0 new run.1 end turn run.3)
      (left_now old run.0 (IsNoneOrAll text first group) (run.2.any_moment text first holds)))
      (λ c either. (1, kept_in_doubt text first group [] c tt either))
  from_held text first (appends group (Err (BadLog at)) ∷ calls) old new start end holds turn run = absurd run.2.fault
  from_held text first (appends group (Err Full) ∷ calls) old new start end holds turn run =
      leaves_weaker moment left_since may_leave old new (λ file. (n : ℕ) × IsKept text first (take n (appends group (Err Full) ∷ calls)) file) (λ file. (n : ℕ) × IsKept text first (take n calls) file)
      (subst (λ d. LeavesOnly moment left_since d new (λ file. (n : ℕ) × IsKept text first (take n calls) file)) (run.2.unchanged refl)
      (from_held text first calls run.0 new run.1 end (held_at text first old run.0 start run.1 (run.2.unchanged refl) run.2.end_same holds) turn run.3))
      (λ c kept. (suc kept.0, kept.1))
  from_held text first (appends group (Err Memory) ∷ calls) old new start end holds turn run =
      leaves_weaker moment left_since may_leave old new (λ file. (n : ℕ) × IsKept text first (take n (appends group (Err Memory) ∷ calls)) file) (λ file. (n : ℕ) × IsKept text first (take n calls) file)
      (subst (λ d. LeavesOnly moment left_since d new (λ file. (n : ℕ) × IsKept text first (take n calls) file)) (run.2.unchanged_memory refl)
      (from_held text first calls run.0 new run.1 end (held_at text first old run.0 start run.1 (run.2.unchanged_memory refl) run.2.end_same holds) turn run.3))
      (λ c kept. (suc kept.0, kept.1))
  from_held text first (reads ∷ calls) old new start end holds turn run =
      leaves_then moment left_since may_leave old run.0 new (λ file. (n : ℕ) × IsKept text first (take n (reads ∷ calls)) file)
      (λ file. (n : ℕ) × IsKept text first (take n calls) file)
      (leaves_weaker moment left_since may_leave old run.0 (λ file. (n : ℕ) × IsKept text first (take n (reads ∷ calls)) file) (may_leave old) run.2.0.any_moment
      (λ c now. (0, kept_first text first c (subst (IsLog text first) (sym (holds.durable c now)) holds.log))))
      (from_held text first calls run.0 new run.1 end
      (subst (λ (n : ℕ). HoldsLog seen may_leave run.0 n text first) (sym run.2.1) (still_held text first old run.0 start run.2.0 holds)) turn run.3)
      (λ c kept. (suc kept.0, kept.1))

  pub outlives : OutlivesCrashes seen may_leave moment left_since
  outlives text first [] since old mid new start middle end holds turn run then_run =
      from_held text first since mid new middle end (held_at text first old mid start middle run.0 run.1 holds) turn then_run
  outlives text first (appends group (Ok done) ∷ before) since old mid new start middle end holds turn run then_run =
      leaves_weaker moment left_since may_leave mid new (λ file. (n : ℕ) × IsKept text first (appends group (Ok done) ∷ (before ++ take n since)) file)
      (λ file. (n : ℕ) × IsKept text (first ++ group) (before ++ take n since) file)
      (outlives text (first ++ group) before since run.0 mid new run.1 middle end (run.2.acknowledged text first holds) turn run.3 then_run)
      (λ c kept. (kept.0, kept_more text first group done (before ++ take kept.0 since) c kept.1))
  outlives text first (appends group (Err DiskFault) ∷ before) since old mid new start middle end holds turn run then_run =
      let none = none_first before since turn in
      let first_quiet = quiet before run.0 mid run.1 middle none run.3 in
      leaves_weaker moment left_since may_leave mid new (λ file. (n : ℕ) × IsKept text first (appends group (Err DiskFault) ∷ (before ++ take n since)) file) (may_leave mid)
      (quiet since mid new middle end (none_then before since turn) then_run)
      (λ c now. (
        0,
        kept_in_doubt text first group (before ++ []) c (subst AppendsNone (sym (append-nil before)) none)
            (left_now old run.0 (IsNoneOrAll text first group) (run.2.any_moment text first holds) c (left_now run.0 mid (may_leave run.0) first_quiet c now)),
      ))
  outlives text first (appends group (Err (BadLog at)) ∷ before) since old mid new start middle end holds turn run then_run = absurd run.2.fault
  outlives text first (appends group (Err Full) ∷ before) since old mid new start middle end holds turn run then_run =
      outlives text first before since run.0 mid new run.1 middle end (held_at text first old run.0 start run.1 (run.2.unchanged refl) run.2.end_same holds) turn run.3 then_run
  outlives text first (appends group (Err Memory) ∷ before) since old mid new start middle end holds turn run then_run =
      outlives text first before since run.0 mid new run.1 middle end (held_at text first old run.0 start run.1 (run.2.unchanged_memory refl) run.2.end_same holds) turn run.3 then_run
  outlives text first (reads ∷ before) since old mid new start middle end holds turn run then_run =
      outlives text first before since run.0 mid new run.1 middle end
      (subst (λ (n : ℕ). HoldsLog seen may_leave run.0 n text first) (sym run.2.1) (still_held text first old run.0 start run.2.0 holds)) turn run.3 then_run
