-- What a group that is put behind a log does to what its disk leaves.
use Rattle.std.proofs.Common.{◌≡◌, ◌<◌, ◌≤◌, ◌+◌, ◌-◌, ℕ, suc, List, [], ◌∷◌, ◌++◌, length, take, drop, get_or, Bool, true, false, Result, Ok, Err, Some, slice_get, refl, sym, ap, subst, ◌∙◌, inl, inr, ⊎_elim, arith, length-drop, length-take, length-take-le, get_or-drop, take_all, take-append-drop, min}
use Rattle.std.specs.Prelude.{IsErr}
use Rattle.std.proofs.Math.Seq.{take-add, take-suc}
use Rattle.std.proofs.lemmas.List.{append-nil, take-append-le}
use Rattle.std.proofs.lemmas.Option.{get_or_from_slice_get}
use mathlib.Core.List.{IsPrefix}
use Rattle.turn_lock.specs.Pass.{HallState, PassState, IsPassOf}
use Rattle.turn_lock.proofs.Prefixes.{prefix_length, prefix_trans}
use Rattle.campaign_law.specs.declared.entry.Entry.{Entry}
use Rattle.crash_log.specs.declared.faults.LogFault.{LogFault}
use Rattle.crash_log.specs.declared.faults.LogFault.TheVariants.{DiskFault, BadLog, Full, Memory}
use Rattle.crash_log.specs.Log.{IsLog, HoldsLog, IsNoneOrAll}
use Rattle.crash_log.specs.Runs.{Acknowledges, LeavesNoneOrAll}
use Rattle.crash_log.specs.Faults.{IsAppendFault}
use Rattle.evening_log.specs.Keeping.{IsGroup, group_of, is_disk_fault, LeavesPart, LogOrigin, KeeperState, log_history, KeepsDisk, IsKept, KeepsMore}

pub group_grows : (history group : List Entry) (from place : ℕ) (e : Entry) → from ≤ place → place < length history → slice_get history place ≡ Some e
    → group ≡ take (place - from) (drop from history) → group ++ e ∷ [] ≡ take (place + 1 - from) (drop from history)
group_grows history group from place e le within at is =
    let n : place + 1 - from ≡ suc (place - from) = omega (arith, le) in
    let inside : place - from < length (drop from history) = simp length-drop (omega (arith, le, within)) in
    let same : from + (place - from) ≡ place = omega (arith, le) in
    let there : get_or (drop from history) (place - from) e ≡ e =
    get_or-drop from history (place - from) e ∙ (ap (λ k. get_or history k e) same ∙ get_or_from_slice_get history place e e at) in
    rw (n, take-suc (drop from history) (place - from) e inside, there) (ap (λ g. g ++ e ∷ []) is)

-- a longer history has the same front
pub front_same : (front more : List Entry) (n : ℕ) → IsPrefix front more → n ≤ length front → take n more ≡ take n front
front_same front more n pre le = subst (λ m. take n m ≡ take n front) pre.1 (take-append-le n front pre.0 le)

pub front_more : (front : List Entry) (group : List Entry) (n : ℕ) → IsGroup group n front → take (n + length group) front ≡ take n front ++ group
front_more front group n is = take-add n (length group) front ∙ ap (λ g. take n front ++ g) (sym is.is)

-- the group lies within the history
pub group_within : (front group : List Entry) (n : ℕ) → n ≤ length front → IsGroup group n front → n + length group ≤ length front
group_within front group n le is =
    let size : length group ≡ min (length group) (length front - n) = ap length is.is ∙ (length-take (length group) (drop n front) ∙ ap (λ m. min (length group) m) (length-drop n front)) in
    omega (arith, size, le)

pub part_longer : (text : List ℕ) (least : ℕ) (front more : List Entry) (file : List ℕ) → IsPrefix front more → LeavesPart text least front file → LeavesPart text least more file
part_longer text least front more file pre part = record {
  count = part.count;
  least_is = part.least_is;
  within = omega (arith, part.within, prefix_length front more pre);
  is = subst (λ es. IsLog text es file) (sym (front_same front more part.count pre part.within)) part.is;
}

pub part_less : (text : List ℕ) (least less : ℕ) (front : List Entry) (file : List ℕ) → less ≤ least → LeavesPart text least front file → LeavesPart text less front file
part_less text least less front file le part = record { count = part.count; least_is = omega (arith, le, part.least_is); within = part.within; is = part.is }

part_none_or_all : (text : List ℕ) (front group : List Entry) (n : ℕ) (file : List ℕ) → n ≤ length front → IsGroup group n front
    → IsNoneOrAll text (take n front) group file → LeavesPart text n front file
part_none_or_all text front group n file le is (inl log) = record { count = n; least_is = omega arith; within = le; is = log }
part_none_or_all text front group n file le is (inr log) = record {
  count = n + length group;
  least_is = omega arith;
  within = group_within front group n le is;
  is = subst (λ es. IsLog text es file) (sym (front_more front group n is)) log;
}

module _ {D : Type 0} (seen : D → List ℕ) (may_leave : D → List ℕ → Type 0) (moment : D → ℕ) (left_since : D → ℕ → List ℕ → Type 0) where
  -- behind a longer front
  pub disk_longer : (text : List ℕ) (front more : List Entry) (recovered start logged : ℕ) (stuck : Bool) (disk : D) (end : ℕ) → IsPrefix front more → logged ≤ length front
      → KeepsDisk seen may_leave moment left_since text front recovered start logged stuck disk end → KeepsDisk seen may_leave moment left_since text more recovered start logged stuck disk end
  disk_longer text front more recovered start logged stuck disk end pre le k = record {
    holds = λ free. subst (λ es. HoldsLog seen may_leave disk end text es) (sym (front_same front more logged pre le)) (k.holds free);
    now = λ c may. part_longer text logged front more c pre (k.now c may);
    began = k.began;
    since = λ c left. part_longer text recovered front more c pre (k.since c left);
  }

  module _ (counts_now : (disk : D) (t : ℕ) (c : List ℕ) → t ≤ moment disk → may_leave disk c → left_since disk t c) where
    pub puts_all : (group : List Entry) (old new : D) (end end_after : ℕ) → Acknowledges seen may_leave old end new end_after group (Ok tt)
        → LeavesNoneOrAll seen may_leave moment left_since old end new group → KeepsMore seen may_leave moment left_since group (Ok group) old end new end_after false
    puts_all group old new end end_after ack leaves text front recovered start logged least le is k =
        let held = k.holds refl in
        let run = leaves text (take logged front) held in
        let holds : HoldsLog seen may_leave new end_after text (take (logged + length group) front) =
        subst (λ es. HoldsLog seen may_leave new end_after text es) (sym (front_more front group logged is)) (ack text (take logged front) held) in
        record {
          holds = λ free. holds;
          now = λ c may. record {
            count = logged + length group;
            least_is = omega arith;
            within = group_within front group logged le is;
            is = subst (λ file. IsLog text (take (logged + length group) front) file) (sym (holds.durable c may)) holds.log;
          };
          began = omega (arith, k.began, run.later);
          since = λ c left. ⊎_elim (λ was. k.since c was) (λ here. part_less text logged recovered front c least (part_none_or_all text front group logged c le is here)) (run.before start c k.began left);
        }

    pub puts_none : (group : List Entry) (old new : D) (end end_after : ℕ) → new ≡ old → end_after ≡ end → KeepsMore seen may_leave moment left_since group (Err Memory) old end new end_after false
    puts_none group old new end end_after disk_is end_is text front recovered start logged least le is k =
        let zero_more : logged + 0 ≡ logged = omega arith in
        subst (λ n. KeepsDisk seen may_leave moment left_since text front recovered start n false new end_after) (sym zero_more)
        (subst (λ d. KeepsDisk seen may_leave moment left_since text front recovered start logged false d end_after) (sym disk_is)
        (subst (λ e. KeepsDisk seen may_leave moment left_since text front recovered start logged false old e) (sym end_is) k))

    pub puts_in_doubt : (group : List Entry) (old new : D) (end end_after : ℕ) → LeavesNoneOrAll seen may_leave moment left_since old end new group
        → KeepsMore seen may_leave moment left_since group (Err DiskFault) old end new end_after true
    puts_in_doubt group old new end end_after leaves text front recovered start logged least le is k =
        let held = k.holds refl in
        let run = leaves text (take logged front) held in
        let zero_more : logged + 0 ≡ logged = omega arith in
        subst (λ n. KeepsDisk seen may_leave moment left_since text front recovered start n true new end_after) (sym zero_more)
        record {
          holds = λ free. absurd (cc free);
          now = λ c may. part_none_or_all text front group logged c le is (run.each c (counts_now new (moment old) c run.later may));
          began = omega (arith, k.began, run.later);
          since = λ c left. ⊎_elim (λ was. k.since c was) (λ here. part_less text logged recovered front c least (part_none_or_all text front group logged c le is here)) (run.before start c k.began left);
        }

    puts_fault : (group : List Entry) (old new : D) (end end_after : ℕ) (fault : LogFault) → LeavesNoneOrAll seen may_leave moment left_since old end new group
        → (◌≡◌ {A = Result (Unit {0}) LogFault} (Err fault) (Err Full) → new ≡ old) → (◌≡◌ {A = Result (Unit {0}) LogFault} (Err fault) (Err Memory) → new ≡ old) → end_after ≡ end → IsAppendFault fault
        → KeepsMore seen may_leave moment left_since group (Err fault) old end new end_after (is_disk_fault fault)
    puts_fault group old new end end_after DiskFault leaves full memory end_is fault = puts_in_doubt group old new end end_after leaves
    puts_fault group old new end end_after (BadLog at) leaves full memory end_is fault = absurd fault
    puts_fault group old new end end_after Full leaves full memory end_is fault = puts_none group old new end end_after (full refl) end_is
    puts_fault group old new end end_after Memory leaves full memory end_is fault = puts_none group old new end end_after (memory refl) end_is

    pub put_ok : (group entries : List Entry) (old new : D) (end end_after : ℕ) (stuck : Bool) → entries ≡ group → stuck ≡ false
        → Acknowledges seen may_leave old end new end_after entries (Ok tt) → LeavesNoneOrAll seen may_leave moment left_since old end new entries
        → KeepsMore seen may_leave moment left_since group (Ok group) old end new end_after stuck
    put_ok group entries old new end end_after stuck same free ack leaves =
        subst (λ (s : Bool). KeepsMore seen may_leave moment left_since group (Ok group) old end new end_after s) (sym free)
        (puts_all group old new end end_after (subst (λ (es : List Entry). Acknowledges seen may_leave old end new end_after es (Ok tt)) same ack)
        (subst (λ (es : List Entry). LeavesNoneOrAll seen may_leave moment left_since old end new es) same leaves))

    pub put_err : (group entries : List Entry) (old new : D) (end end_after : ℕ) (stuck : Bool) (fault : LogFault) → entries ≡ group → stuck ≡ is_disk_fault fault
        → LeavesNoneOrAll seen may_leave moment left_since old end new entries
        → (◌≡◌ {A = Result (Unit {0}) LogFault} (Err fault) (Err Full) → new ≡ old) → (◌≡◌ {A = Result (Unit {0}) LogFault} (Err fault) (Err Memory) → new ≡ old) → end_after ≡ end → IsAppendFault fault
        → KeepsMore seen may_leave moment left_since group (Err fault) old end new end_after stuck
    put_err group entries old new end end_after stuck fault same stuck_is leaves full memory end_is append_fault =
        subst (λ (s : Bool). KeepsMore seen may_leave moment left_since group (Err fault) old end new end_after s) (sym stuck_is)
        (puts_fault group old new end end_after fault (subst (λ (es : List Entry). LeavesNoneOrAll seen may_leave moment left_since old end new es) same leaves) full memory end_is append_fault)

  -- a log that has the first `recovered` entries of the front
  starts : (only_now : (disk : D) (c : List ℕ) → left_since disk (moment disk) c → may_leave disk c) (text : List ℕ) (front : List Entry) (recovered : ℕ) (disk : D) (end : ℕ)
      → recovered ≤ length front → HoldsLog seen may_leave disk end text (take recovered front) → KeepsDisk seen may_leave moment left_since text front recovered (moment disk) recovered false disk end
  starts only_now text front recovered disk end within held =
      let now : (c : List ℕ) → may_leave disk c → LeavesPart text recovered front c =
      λ c may. record {
        count = recovered;
        least_is = omega arith;
        within = within;
        is = subst (λ file. IsLog text (take recovered front) file) (sym (held.durable c may)) held.log;
      }
      in
      record {
        holds = λ free. held;
        now = now;
        began = omega arith;
        since = λ c left. now c (only_now disk c left);
      }

  pub starts_at : (only_now : (disk : D) (c : List ℕ) → left_since disk (moment disk) c → may_leave disk c) (text : List ℕ) (front : List Entry) (recovered start : ℕ) (disk : D) (end : ℕ)
      → recovered ≤ length front → start ≡ moment disk
      → HoldsLog seen may_leave disk end text (take recovered front) → KeepsDisk seen may_leave moment left_since text front recovered start recovered false disk end
  starts_at only_now text front recovered start disk end within start_is held =
      subst (λ (s : ℕ). KeepsDisk seen may_leave moment left_since text front recovered s recovered false disk end) (sym start_is) (starts only_now text front recovered disk end within held)

-- ---- a keeper

pub no_group : (r : Result (List Entry) LogFault) → IsErr r → group_of r ≡ []
no_group (Ok group) err = absurd (cc err)
no_group (Err fault) err = refl

pub history_same : (front more : List Entry) (n : ℕ) (r : Result (List Entry) LogFault) → IsPrefix front more → n ≤ length front → group_of r ≡ [] → take n more ≡ take n front ++ group_of r
history_same front more n r pre le none = front_same front more n pre le ∙ (sym (append-nil (take n front)) ∙ ap (λ g. take n front ++ g) (sym none))

pub history_more : (front more group : List Entry) (n count : ℕ) → IsPrefix front more → n ≤ length front → IsGroup group n more → count ≡ length group → take (n + count) more ≡ take n front ++ group
history_more front more group n count pre le is size =
    ap (λ m. take (n + m) more) size ∙ (front_more more group n is ∙ ap (λ es. es ++ group) (front_same front more n pre le))

module _ {Origin D : Type 0} {tells : Type 0} {seen : D → List ℕ} {may_leave : D → List ℕ → Type 0} {moment : D → ℕ} {left_since : D → ℕ → List ℕ → Type 0} where
  pub kept_longer : (k : KeeperState Origin D) (pass : PassState Entry Origin) (hall : HallState Origin) → IsKept tells seen may_leave moment left_since k
      → hall ≡ k.origin.hall → IsPassOf hall pass → IsPrefix k.pass.front pass.front → IsKept tells seen may_leave moment left_since (record k { pass = pass })
  kept_longer k pass hall h hall_is pass_is pre = record {
    pass_is = subst (λ (x : HallState Origin). IsPassOf x pass) hall_is pass_is;
    within = omega (arith, h.within, prefix_length k.pass.front pass.front pre);
    least = h.least;
    disk_is = λ told. disk_longer seen may_leave moment left_since k.origin.text k.pass.front pass.front k.origin.recovered k.origin.start k.logged k.stuck k.disk k.end pre h.within (h.disk_is told);
  }

  pub kept_more : (k : KeeperState Origin D) (group : List Entry) (answer : Result (List Entry) LogFault) (disk : D) (end : ℕ) (stuck : Bool) (count : ℕ) → IsKept tells seen may_leave moment left_since k
      → k.stuck ≡ false → IsGroup group k.logged k.pass.front → count ≡ length (group_of answer) → count ≤ length group
      → (tells → KeepsMore seen may_leave moment left_since group answer k.disk k.end disk end stuck)
      → IsKept tells seen may_leave moment left_since (record k { disk = disk; end = end; stuck = stuck; logged = k.logged + count })
  kept_more k group answer disk end stuck count h free is count_is fits more = record {
    pass_is = h.pass_is;
    within = omega (arith, fits, group_within k.pass.front group k.logged h.within is);
    least = omega (arith, h.least);
    disk_is = λ told.
        subst (λ (n : ℕ). KeepsDisk seen may_leave moment left_since k.origin.text k.pass.front k.origin.recovered k.origin.start (k.logged + n) stuck disk end) (sym count_is)
        (more told k.origin.text k.pass.front k.origin.recovered k.origin.start k.logged h.least h.within is
        (subst (λ (s : Bool). KeepsDisk seen may_leave moment left_since k.origin.text k.pass.front k.origin.recovered k.origin.start k.logged s k.disk k.end) free (h.disk_is told)));
  }

  pub kept_refused : (k : KeeperState Origin D) (group : List Entry) (answer : Result (List Entry) LogFault) (disk : D) (end : ℕ) (stuck : Bool) → IsKept tells seen may_leave moment left_since k
      → k.stuck ≡ false → IsGroup group k.logged k.pass.front → group_of answer ≡ []
      → (tells → KeepsMore seen may_leave moment left_since group answer k.disk k.end disk end stuck)
      → IsKept tells seen may_leave moment left_since (record k { disk = disk; end = end; stuck = stuck })
  kept_refused k group answer disk end stuck h free is none more =
      let same : k.logged + 0 ≡ k.logged = omega arith in
      subst (λ (n : ℕ). IsKept tells seen may_leave moment left_since (record k { disk = disk; end = end; stuck = stuck; logged = n })) same
      (kept_more k group answer disk end stuck 0 h free is (sym (ap length none)) (omega arith) more)

  pub closes_now : (k : KeeperState Origin D) (pass : PassState Entry Origin) (disk : D) (origin : LogOrigin Origin) (heard : ℕ) (front : List Entry) → IsKept tells seen may_leave moment left_since k
      → k.origin ≡ origin → pass ≡ k.pass → disk ≡ k.disk → heard ≤ length (log_history k) → IsPrefix pass.front front
      → tells → (c : List ℕ) → may_leave disk c → LeavesPart origin.text heard front c
  closes_now k pass disk origin heard front h origin_is pass_is disk_is le pre told c may =
      let pre' : IsPrefix k.pass.front front = subst (λ (p : PassState Entry Origin). IsPrefix p.front front) pass_is pre in
      let part = (h.disk_is told).now c (subst (λ d. may_leave d c) disk_is may) in
      subst (λ (o : LogOrigin Origin). LeavesPart o.text heard front c) origin_is
      (part_less k.origin.text k.logged heard front c (omega (arith, le, length-take-le k.logged k.pass.front h.within)) (part_longer k.origin.text k.logged k.pass.front front c pre' part))

  pub closes_since : (k : KeeperState Origin D) (pass : PassState Entry Origin) (disk : D) (origin : LogOrigin Origin) (front : List Entry) → IsKept tells seen may_leave moment left_since k
      → k.origin ≡ origin → pass ≡ k.pass → disk ≡ k.disk → IsPrefix pass.front front
      → tells → (c : List ℕ) → left_since disk origin.start c → LeavesPart origin.text origin.recovered front c
  closes_since k pass disk origin front h origin_is pass_is disk_is pre told c left =
      let pre' : IsPrefix k.pass.front front = subst (λ (p : PassState Entry Origin). IsPrefix p.front front) pass_is pre in
      let left' : left_since k.disk k.origin.start c = subst (λ (o : LogOrigin Origin). left_since k.disk o.start c) (sym origin_is) (subst (λ d. left_since d origin.start c) disk_is left) in
      subst (λ (o : LogOrigin Origin). LeavesPart o.text o.recovered front c) origin_is
      (part_longer k.origin.text k.origin.recovered k.pass.front front c pre' ((h.disk_is told).since c left'))

pub closes_front : {Origin D : Type 0} (k : KeeperState Origin D) (seen_front : List Entry) (pass : PassState Entry Origin) (front : List Entry) → IsPrefix seen_front (log_history k)
    → pass ≡ k.pass → IsPrefix pass.front front → IsPrefix seen_front front
closes_front k seen_front pass front first pass_is pre =
    prefix_trans seen_front (log_history k) front first
    (prefix_trans (log_history k) k.pass.front front (drop k.logged k.pass.front, take-append-drop k.logged k.pass.front)
    (subst (λ (p : PassState Entry _). IsPrefix p.front front) pass_is pre))
