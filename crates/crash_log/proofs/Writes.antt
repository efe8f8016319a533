-- An append: the records behind the closed gate, made safe, and then the gate, made safe.
use Rattle.std.proofs.Common.{◌≡◌, ◌<◌, ◌^◌, inl, inr, ℕ, ◌+◌, List, [], ◌∷◌, ◌++◌, length, refl, sym, ◌∙◌, ap, subst, arith, length-append}
use Rattle.crash_log.specs.Disk.{Holds, Torn, TornFrom, Follows, Only, NoMore, Elapses, LeavesOnly}
use Rattle.std.specs.Prelude.{All}
use Rattle.std.specs.List.{flat_map}
use Rattle.crash_log.specs.Entries.{Fits}
use Rattle.crash_log.specs.Log.{record_bytes, open_part, IsLog, IsNoneOrAll, IsShutAt, IsPut, IsShutOrPut, HoldsLog}
use Rattle.campaign_law.specs.declared.entry.Entry.{Entry}
use Rattle.crash_log.proofs.Moments.{started, goes_on}
use Rattle.crash_log.proofs.Crash.{first_write, first_written, second_write, second_written, all_more, still, none_or_all, open_part-append}

module _ {D : Type 0} (seen : D → List ℕ) (may_leave : D → List ℕ → Type 0) (moment : D → ℕ) (left_since : D → ℕ → List ℕ → Type 0)
    (old : D) (end : ℕ) (text : List ℕ) (entries group : List Entry)
    (only_now : (c : List ℕ) → left_since old (moment old) c → may_leave old c) (holds : HoldsLog seen may_leave old end text entries) where
  before : (c : List ℕ) → may_leave old c → IsNoneOrAll text entries group c
  before c now = inl (subst (IsLog text entries) (sym (holds.durable c now)) holds.log)

  -- nothing was called yet
  pub unmoved : LeavesOnly moment left_since old old (IsNoneOrAll text entries group)
  unmoved = started moment left_since may_leave old (IsNoneOrAll text entries group) (λ c left. before c (only_now c left))

  module _ (piece : List ℕ) (gate : ℕ) (piece_is : 1 ∷ piece ≡ flat_map record_bytes group ++ 0 ∷ []) (gate_is : gate ≡ end) (fits : All Fits group)
      (place : end + length (flat_map record_bytes group) < 2 ^ 30) where
    room : length (open_part text entries) + length (flat_map record_bytes group) < 2 ^ 30
    room = omega (arith, place, holds.end_at)

    shut : IsShutAt (open_part text entries) gate (seen old)
    shut = record { gate = holds.log.gate; behind = holds.log.behind; is = holds.log.is; closed = holds.log.closed; at = sym (gate_is ∙ holds.end_at) }

    outcome_of : (c : List ℕ) → IsShutOrPut (open_part text entries) piece c → IsNoneOrAll text entries group c
    outcome_of c (inl stands) = inl (still text entries group piece piece_is holds.log.few holds.log.fit fits room stands.gate c stands.behind stands.closed stands.is)
    outcome_of c (inr put) = none_or_all text entries group piece piece_is holds.log.few holds.log.fit fits room put.0 c put.1.rest put.1.is

    -- a write of the piece behind the closed gate
    first_outcome : (c : List ℕ) → TornFrom (may_leave old) (gate + 1) (length piece) c → IsNoneOrAll text entries group c
    first_outcome c torn =
        let first = first_write (open_part text entries) (seen old) gate (length piece) (may_leave old) shut holds.durable c torn in
        outcome_of c (inl (record { gate = first.gate; behind = first.behind; is = first.is; closed = first.closed; at = refl }))

    module _ (mid : D) (torn : Follows (Torn (gate + 1) (length piece)) (may_leave old) (may_leave mid)) (time : Elapses moment left_since may_leave old mid) where
      pub wrote_record : LeavesOnly moment left_since old mid (IsNoneOrAll text entries group)
      wrote_record = goes_on moment left_since may_leave old old mid (IsNoneOrAll text entries group) unmoved time (λ c now. first_outcome c (torn c now))

      module _ (safe : D) (no_more : NoMore (may_leave safe) (may_leave mid)) (time_safe : Elapses moment left_since may_leave mid safe) where
        pub record_safe : LeavesOnly moment left_since old safe (IsNoneOrAll text entries group)
        record_safe = goes_on moment left_since may_leave old mid safe (IsNoneOrAll text entries group) wrote_record time_safe (λ c now. first_outcome c (torn c (no_more c now)))

        module _ (written : Holds (seen old) (gate + 1) piece (seen mid)) (same : seen safe ≡ seen mid) (durable : Only (seen safe) (may_leave safe)) where
          put : IsPut (open_part text entries) shut.gate piece (seen safe)
          put = subst (IsPut (open_part text entries) shut.gate piece) (sym same) (first_written (open_part text entries) (seen old) piece (seen mid) gate shut written)

          -- a write of the gate
          second_outcome : (c : List ℕ) → TornFrom (may_leave safe) gate 1 c → IsNoneOrAll text entries group c
          second_outcome c torn_gate =
              let second = second_write (open_part text entries) (seen safe) piece gate shut.gate (may_leave safe) shut.at put durable c torn_gate in
              outcome_of c (inr second)

          module _ (opened : D) (torn_gate : Follows (Torn gate 1) (may_leave safe) (may_leave opened)) (time_opened : Elapses moment left_since may_leave safe opened) where
            pub wrote_gate : LeavesOnly moment left_since old opened (IsNoneOrAll text entries group)
            wrote_gate = goes_on moment left_since may_leave old safe opened (IsNoneOrAll text entries group) record_safe time_opened (λ c now. second_outcome c (torn_gate c now))

            pub gate_safe : (new : D) → NoMore (may_leave new) (may_leave opened) → Elapses moment left_since may_leave opened new → LeavesOnly moment left_since old new (IsNoneOrAll text entries group)
            gate_safe new none_more time_new =
                goes_on moment left_since may_leave old opened new (IsNoneOrAll text entries group) wrote_gate time_new (λ c now. second_outcome c (torn_gate c (none_more c now)))

            -- the log has the group
            pub put_log : (new : D) (end_after : ℕ) → Holds (seen safe) gate (1 ∷ []) (seen opened) → seen new ≡ seen opened → Only (seen new) (may_leave new)
                → end_after ≡ end + length (flat_map record_bytes group) → HoldsLog seen may_leave new end_after text (entries ++ group)
            put_log new end_after opened_is same_new durable_new end_is =
                let is_put = second_written (open_part text entries) (seen safe) piece (seen opened) gate shut.gate shut.at put opened_is in
                record {
                  log = subst (IsLog text (entries ++ group)) (sym same_new)
                      (all_more text entries group piece piece_is holds.log.few holds.log.fit fits room (seen opened) is_put.rest is_put.is);
                  end_at = omega (arith, end_is, holds.end_at, ap length (open_part-append text entries group), length-append (open_part text entries) (flat_map record_bytes group));
                  durable = durable_new;
                }
