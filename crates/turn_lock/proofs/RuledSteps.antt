-- Each kind of step keeps the rule, and tells what it says.
use Rattle.std.proofs.Common.{◌≡◌, ℕ, subst, ◌+◌, ◌%◌, ◌^◌, ◌<◌, ◌≤◌, ◌≢◌, ◌==◌, ◌⊎◌, max, true, false, List, [], ◌∷◌, ◌++◌, length, get_or, set, sym, refl, ap, ◌∙◌, inl, inr, ⊎_elim, arith, Some}
use mathlib.Core.Option.{some, some-injective}
use mathlib.Core.List.{IsPrefix}
use mathlib.Core.Logic.{dite}
use native.Mathlib.Decide.{dec_le}
use prog.Atomic.{either}
use lib.ListN.{get_elem?}
use Rattle.atomic_table.specs.Table.{Me, Step, Act, keeps, takes, gives, Allows, Splits, Joins, Valid, stepped, carried_after, homes_after, opening, Final, Seen}
use Rattle.atomic_table.proofs.Lists.{at_set, set_else, set_again, at_longer, at_snoc, exchanged}
use Rattle.std.proofs.lemmas.Bool.{false_from_ne_true}
use Rattle.turn_lock.specs.declared.view.SeatView.{SeatView}
use Rattle.turn_lock.specs.SeatView.{first_view, spent, with_turn, with_object, grown, without_object, without_turn, informed, settled, newcomer, joined}
use Rattle.turn_lock.specs.Order.{Knows, IsOrderly}
use Rattle.turn_lock.specs.Steps.{TakesTurn, TakesObject, AddsEntries, GivesObject, PassesTurn, LoadsMade, ComparesFronts}
use Rattle.turn_lock.proofs.Prefixes.{prefix_self, prefix_trans, prefix_shorter, prefix_length}
use Rattle.turn_lock.proofs.SeatChanges.{true-ne-false, get-set_here, set-single, get-single, some-same, each_set, Rule, free_or_held-set, renews, stored_at}

module _ {O Entry Origin : Type 0} (origin : O → Origin) (history : O → List Entry) (start : Origin) where
  module _ (slots : ℕ) (step : Step O) where
    pub loads_made : (id : ℕ) (me : Me O (SeatView Entry Origin)) → Allows (Rule origin history start) slots id me 0 (λ n. n) (LoadsMade step me)
    loads_made id me state rule long there fit =
        let was = rule.each id me.0 there in
        let made : get_or state.words 0 0 ≡ length rule.log = ap (λ words. get_or words 0 0) rule.words in
        let new = informed me.0 (get_or state.words 0 0) in (
          new,
          keeps,
          tt,
          renews origin history start state rule id me.0 new there
              (record { origin_is = was.origin_is; begins = was.begins; told_begins = was.told_begins; heard_of = (let heard = was.heard_of in omega arith); turn_has_log = was.turn_has_log; out_has_turn = was.out_has_turn }) refl refl
              (set state.words 0 (get_or state.words 0 0)) (ap (λ words. set words 0 (get_or words 0 0)) rule.words),
          (refl, (let longer = prefix_length me.0.front rule.log was.begins in omega arith), (let heard = was.heard_of in omega arith)),
        )

    pub compares_fronts : (id : ℕ) (me : Me O (SeatView Entry Origin)) → me.0.turn ≡ false → Allows (Rule origin history start) slots id me 0 (λ n. n) (ComparesFronts step me)
    compares_fronts id me idle state rule long there fit =
        let was = rule.each id me.0 there in
        let IsBoth : List Entry → Type 0 = λ front. IsPrefix me.0.front front × IsPrefix me.0.told front × ((front ≡ me.0.front) ⊎ (front ≡ me.0.told)) in
        let to : (front : List Entry) → IsPrefix front rule.log → IsBoth front
        → (new : SeatView Entry Origin) × (act : Act O) × Valid state.homes me.1 act × Rule origin history start (stepped state 0 (get_or state.words 0 0) id me.1 new act) × ComparesFronts step me (get_or state.words 0 0) (new, carried_after me.1 act)
        = λ (front : List Entry) (begins : IsPrefix front rule.log) (both : IsBoth front). (
          settled me.0 front,
          keeps,
          tt,
          renews origin history start state rule id me.0 (settled me.0 front) there
              (record { origin_is = was.origin_is; begins = begins; told_begins = (rule.log, refl); heard_of = was.heard_of; turn_has_log = λ has. absurd (true-ne-false me.0.turn has idle); out_has_turn = was.out_has_turn }) refl refl
              (set state.words 0 (get_or state.words 0 0)) (ap (λ words. set words 0 (get_or words 0 0)) rule.words),
          (refl, both.0, both.1, both.2),
        ) in
        dite (dec_le (length me.0.front) (length me.0.told))
        (λ le. to me.0.told was.told_begins (prefix_shorter me.0.front me.0.told rule.log was.begins was.told_begins le, prefix_self me.0.told, inr refl))
        (λ no. to me.0.front was.begins (prefix_self me.0.front, prefix_shorter me.0.told me.0.front rule.log was.told_begins was.begins (omega arith), inl refl))

    pub takes_turn : (id : ℕ) (me : Me O (SeatView Entry Origin)) → Allows (Rule origin history start) slots id me 1 (λ n. either (n == 0) 1 n) (TakesTurn step me)
    takes_turn id me state rule long there fit =
        let was = rule.each id me.0 there in
        let busy : get_or state.words 1 0 ≡ rule.busy = ap (λ words. get_or words 1 0) rule.words in
        let Kept : ℕ → Type 0 = λ word. (new : SeatView Entry Origin) × (act : Act O) × Valid state.homes me.1 act × Rule origin history start (stepped state 1 word id me.1 new act) × TakesTurn step me (get_or state.words 1 0) (new, carried_after me.1 act) in
        let taken : get_or state.words 1 0 ≡ 0 → Kept 1 = λ free.
        let new = with_turn me.0 rule.log in
        let nobody : (k : ℕ) (view : SeatView Entry Origin) → get_elem? state.views k ≡ some view → view.turn ≡ true → ⊥ = λ (k : ℕ) (view : SeatView Entry Origin) (at : get_elem? state.views k ≡ some view) (has : view.turn ≡ true). let one = (rule.alone k view at has).0 in omega arith in (
          new,
          keeps,
          tt,
          record {
            log = rule.log;
            busy = 1;
            holder = id;
            words = ap (λ words. set words 1 1) rule.words;
            each = each_set (Knows start rule.log) state.views id new (record { origin_is = was.origin_is; begins = prefix_self rule.log; told_begins = was.told_begins; heard_of = was.heard_of; turn_has_log = λ _. refl; out_has_turn = λ _. refl }) (λ k view other at. rule.each k view at);
            alone = λ k view at has. ⊎_elim (λ same. (refl, same.0)) (λ other. absurd (nobody k view other.1 has)) (at_set state.views id k new view at);
            free_or_held = inr (new, get-set_here state.views id new me.0 there, refl);
            stored = λ _. rule.stored (λ k view at. false_from_ne_true view.out (λ out. nobody k view at ((rule.each k view at).out_has_turn out)));
          },
          ((λ _. (refl, was.begins, was.heard_of)), (λ other. absurd (other free))),
        ) in
        let missed : get_or state.words 1 0 ≢ 0 → Kept (get_or state.words 1 0) = λ other. (
          me.0,
          keeps,
          tt,
          renews origin history start state rule id me.0 me.0 there was refl refl (set state.words 1 (get_or state.words 1 0)) (ap (λ words. set words 1 (get_or words 1 0)) rule.words),
          ((λ free. absurd (other free)), (λ _. refl)),
        ) in
        exchanged (get_or state.words 1 0) 0 1 Kept taken missed

    pub takes_object : (id : ℕ) (me : Me O (SeatView Entry Origin)) → me.0.turn ≡ true → me.0.out ≡ false → Allows (Rule origin history start) slots id me 0 (λ n. n) (TakesObject origin history step me)
    takes_object id me has in_slot state rule long there fit =
        let was = rule.each id me.0 there in
        let mine = rule.alone id me.0 there has in
        let stored = stored_at origin history start state rule id me.0 there has in_slot in
        let new = with_object me.0 in (
          new,
          takes 0 stored.object,
          ap (λ homes. get_elem? homes 0) stored.slot,
          record {
            log = rule.log;
            busy = rule.busy;
            holder = rule.holder;
            words = ap (λ words. set words 0 (get_or words 0 0)) rule.words;
            each = each_set (Knows start rule.log) state.views id new (record { origin_is = was.origin_is; begins = was.begins; told_begins = was.told_begins; heard_of = was.heard_of; turn_has_log = was.turn_has_log; out_has_turn = λ _. has }) (λ k view other at. rule.each k view at);
            alone = λ k view at turn. ⊎_elim (λ same. subst (λ n. (rule.busy ≡ 1) × (n ≡ rule.holder)) (sym same.0) mine) (λ other. rule.alone k view other.1 turn) (at_set state.views id k new view at);
            free_or_held = free_or_held-set origin history start state.views rule.busy rule.holder id me.0 new there refl rule.free_or_held;
            stored = λ none. absurd (true-ne-false true refl (none id new (get-set_here state.views id new me.0 there)));
          },
          (stored.object, refl, (λ first is. stored.origin_is ∙ sym (was.origin_is first is)), stored.history_is ∙ sym (was.turn_has_log has)),
        )

    pub adds_entries : (id : ℕ) (me : Me O (SeatView Entry Origin)) (more : ℕ) (object : O) → me.0.turn ≡ true → me.0.out ≡ true → me.1 ≡ (0, object) ∷ []
        → IsPrefix me.0.front (history object) → length (history object) < 2 ^ 64 → length me.0.front + more ≡ length (history object)
        → Allows (Rule origin history start) slots id me 0 (λ n. (n + more) % 2 ^ 64) (AddsEntries history step me)
    adds_entries id me more object has out holds begins small grew state rule long there fit =
        let was = rule.each id me.0 there in
        let mine = rule.alone id me.0 there has in
        let whole : me.0.front ≡ rule.log = was.turn_has_log has in
        let on : IsPrefix rule.log (history object) = subst (λ (front : List Entry). IsPrefix front (history object)) whole begins in
        let longer : length rule.log ≤ length (history object) = prefix_length rule.log (history object) on in
        let made : get_or state.words 0 0 ≡ length rule.log = ap (λ words. get_or words 0 0) rule.words in
        let total : (get_or state.words 0 0 + more) % 2 ^ 64 ≡ length (history object) = ap (λ n. n % 2 ^ 64) (ap (λ n. n + more) (made ∙ ap length (sym whole)) ∙ grew) ∙ omega arith in
        let new = grown me.0 (history object) in (
          new,
          keeps,
          tt,
          record {
            log = history object;
            busy = rule.busy;
            holder = rule.holder;
            words = ap (λ n. set state.words 0 n) total ∙ ap (λ words. set words 0 (length (history object))) rule.words;
            each = each_set (Knows start (history object)) state.views id new
                (record { origin_is = was.origin_is; begins = prefix_self (history object); told_begins = prefix_trans me.0.told rule.log (history object) was.told_begins on; heard_of = (let heard = was.heard_of in omega arith); turn_has_log = λ _. refl; out_has_turn = λ _. has })
                (λ k view other at. let old = rule.each k view at in record {
                  origin_is = old.origin_is;
                  begins = prefix_trans view.front rule.log (history object) old.begins on;
                  told_begins = prefix_trans view.told rule.log (history object) old.told_begins on;
                  heard_of = (let heard = old.heard_of in omega arith);
                  turn_has_log = λ turn. absurd (other ((rule.alone k view at turn).1 ∙ sym mine.1));
                  out_has_turn = old.out_has_turn;
                });
            alone = λ k view at turn. ⊎_elim (λ same. subst (λ n. (rule.busy ≡ 1) × (n ≡ rule.holder)) (sym same.0) mine) (λ other. rule.alone k view other.1 turn) (at_set state.views id k new view at);
            free_or_held = free_or_held-set origin history start state.views rule.busy rule.holder id me.0 new there refl rule.free_or_held;
            stored = λ none. absurd (true-ne-false me.0.out out (none id new (get-set_here state.views id new me.0 there)));
          },
          (λ other holds_other. ap (λ (x : O). (grown me.0 (history x), me.1)) (ap (λ (held : List (ℕ × O)). (get_or held 0 (0, object)).1) (sym holds ∙ holds_other))),
        )

    pub gives_object : (id : ℕ) (me : Me O (SeatView Entry Origin)) (object : O) → slots ≡ 1 → me.0.turn ≡ true → me.1 ≡ (0, object) ∷ [] → history object ≡ me.0.front → me.0.origin ≡ Some (origin object)
        → Allows (Rule origin history start) slots id me 0 (λ n. n) (GivesObject step me)
    gives_object id me object one has holds whole from state rule long there fit =
        let was = rule.each id me.0 there in
        let mine = rule.alone id me.0 there has in
        let new = without_object me.0 in (
          new,
          gives,
          tt,
          record {
            log = rule.log;
            busy = rule.busy;
            holder = rule.holder;
            words = ap (λ words. set words 0 (get_or words 0 0)) rule.words;
            each = each_set (Knows start rule.log) state.views id new (record { origin_is = was.origin_is; begins = was.begins; told_begins = was.told_begins; heard_of = was.heard_of; turn_has_log = was.turn_has_log; out_has_turn = λ out. absurd (true-ne-false true refl (sym out)) }) (λ k view other at. rule.each k view at);
            alone = λ k view at turn. ⊎_elim (λ same. subst (λ n. (rule.busy ≡ 1) × (n ≡ rule.holder)) (sym same.0) mine) (λ other. rule.alone k view other.1 turn) (at_set state.views id k new view at);
            free_or_held = free_or_held-set origin history start state.views rule.busy rule.holder id me.0 new there refl rule.free_or_held;
            stored = λ _. record {
              object = object;
              slot = ap (λ held. homes_after state.homes held gives) holds ∙ set-single state.homes (some object) (long ∙ one);
              origin_is = was.origin_is (origin object) from;
              history_is = whole ∙ was.turn_has_log has;
            };
          },
          refl,
        )

    pub passes_turn : (id : ℕ) (me : Me O (SeatView Entry Origin)) → me.0.turn ≡ true → me.0.out ≡ false
        → Allows (Rule origin history start) slots id me 1 (λ _. 0) (λ _. PassesTurn step me 0)
    passes_turn id me has in_slot state rule long there fit =
        let was = rule.each id me.0 there in
        let mine = rule.alone id me.0 there has in
        let stored = stored_at origin history start state rule id me.0 there has in_slot in
        let new = without_turn me.0 in (
          new,
          keeps,
          tt,
          record {
            log = rule.log;
            busy = 0;
            holder = rule.holder;
            words = ap (λ words. set words 1 0) rule.words;
            each = each_set (Knows start rule.log) state.views id new (record { origin_is = was.origin_is; begins = was.begins; told_begins = was.told_begins; heard_of = was.heard_of; turn_has_log = λ turn. absurd (true-ne-false true refl (sym turn)); out_has_turn = λ out. absurd (true-ne-false me.0.out out in_slot) }) (λ k view other at. rule.each k view at);
            alone = λ k view at turn. ⊎_elim (λ same. absurd (true-ne-false true refl (sym (ap (λ v. v.turn) same.1 ∙ turn)))) (λ other. absurd (other.0 ((rule.alone k view other.1 turn).1 ∙ sym mine.1))) (at_set state.views id k new view at);
            free_or_held = inl refl;
            stored = λ _. stored;
          },
          refl,
        )

  pub splits_seat : (id : ℕ) (view : SeatView Entry Origin) → Splits (Rule origin history start) id view view (newcomer view)
  splits_seat id view state rule there =
      let was = rule.each id view there in
      let same : set state.views id view ++ newcomer view ∷ [] ≡ state.views ++ newcomer view ∷ [] = ap (λ views. views ++ newcomer view ∷ []) (set_again state.views id view there) in
      subst (λ views. Rule origin history start record { words = state.words; homes = state.homes; views = views }) (sym same) record {
        log = rule.log;
        busy = rule.busy;
        holder = rule.holder;
        words = rule.words;
        each = λ k other at. ⊎_elim (λ old. rule.each k other old)
            (λ new. subst (Knows start rule.log) new record { origin_is = was.origin_is; begins = was.begins; told_begins = (rule.log, refl); heard_of = was.heard_of; turn_has_log = λ turn. absurd (true-ne-false true refl (sym turn)); out_has_turn = λ out. out })
            (at_snoc state.views (newcomer view) other k at);
        alone = λ k other at turn. ⊎_elim (λ old. rule.alone k other old turn) (λ new. absurd (true-ne-false true refl (sym (ap (λ v. v.turn) new ∙ turn)))) (at_snoc state.views (newcomer view) other k at);
        free_or_held = ⊎_elim (λ free. inl free) (λ held. inr (held.0, at_longer state.views (newcomer view ∷ []) rule.holder held.0 held.1, held.2)) rule.free_or_held;
        stored = λ none. rule.stored (λ k other at. none k other (at_longer state.views (newcomer view ∷ []) k other at));
      }

  pub joins_seats : (id : ℕ) (view : SeatView Entry Origin) (from : ℕ) (other : SeatView Entry Origin) → other.turn ≡ false → other.out ≡ false → Joins (Rule origin history start) id view from other (joined view other) spent
  unfolding renews
  joins_seats id view from other idle in_slot state rule there apart at =
      let was = rule.each id view there in
      let its = rule.each from other (sym (set_else state.views id from (joined view other) apart) ∙ at) in
      let first : Rule origin history start record { words = state.words; homes = state.homes; views = set state.views id (joined view other) } = renews origin history start state rule id view (joined view other) there
      record { origin_is = was.origin_is; begins = was.begins; told_begins = its.begins; heard_of = (let heard = was.heard_of in let its_heard = its.heard_of in omega arith); turn_has_log = was.turn_has_log; out_has_turn = was.out_has_turn } refl refl state.words rule.words in
      renews origin history start record { words = state.words; homes = state.homes; views = set state.views id (joined view other) } first from other spent at
      record { origin_is = λ none is. absurd (cc is); begins = (rule.log, refl); told_begins = (rule.log, refl); heard_of = omega arith; turn_has_log = λ turn. absurd (true-ne-false true refl (sym turn)); out_has_turn = λ out. out }
      (sym idle) (sym in_slot) state.words rule.words

  -- what the slot has, when the table was closed in a turn
  pub closed_in_turn : (id : ℕ) (view : SeatView Entry Origin) (words : List ℕ) (slots : List O) (object : O) → view.turn ≡ true → view.out ≡ false → Final (Seen (Rule origin history start) id view) words slots → get_elem? slots 0 ≡ some object
      → (origin object ≡ start) × (history object ≡ view.front)
  closed_in_turn id view words slots object has in_slot final got =
      let rule = final.1.0 in
      let there = final.1.1 in
      let stored = stored_at origin history start final.0 rule id view there has in_slot in
      let found : get_elem? slots 0 ≡ some stored.object = final.4 0 stored.object (ap (λ homes. get_elem? homes 0) stored.slot) in
      let same : object ≡ stored.object = some-injective object stored.object (sym got ∙ found) in
      (ap origin same ∙ stored.origin_is, ap history same ∙ (stored.history_is ∙ sym ((rule.each id view there).turn_has_log has)))

  -- the seat `before` took the turn, and is `after`, and the table was closed
  pub closes : (id : ℕ) (before after : Me O (SeatView Entry Origin)) (words : List ℕ) (slots : List O) (object : O) → before.0.out ≡ false → after ≡ (with_turn before.0 after.0.front, before.1)
      → IsPrefix before.0.front after.0.front → before.0.heard ≤ length after.0.front
      → Final (Seen (Rule origin history start) id after.0) words slots → get_elem? slots 0 ≡ some object → (origin object ≡ start) × IsPrefix before.0.front (history object) × (before.0.heard ≤ length (history object))
  closes id before after words slots object in_slot took begins heard final got =
      let there = closed_in_turn id after.0 words slots object (ap (λ me. me.0.turn) took) (ap (λ me. me.0.out) took ∙ in_slot) final got in
      (there.0, subst (λ (front : List Entry). IsPrefix before.0.front front) (sym there.1) begins, subst (λ (front : List Entry). before.0.heard ≤ length front) (sym there.1) heard)

module _ {O Entry Origin : Type 0} (origin : O → Origin) (history : O → List Entry) where
  -- the table of a hall that was just opened
  pub opens : (object : O) → IsOrderly origin history (origin object) (opening (length (history object) ∷ 0 ∷ []) (object ∷ []) (first_view (origin object) (history object)))
  opens object = record {
    log = history object;
    busy = 0;
    holder = 0;
    words = refl;
    each = λ k view at. let same : first_view (origin object) (history object) ≡ view = get-single k view at in subst (Knows (origin object) (history object)) same
        record { origin_is = λ start is. sym (some-same is); begins = prefix_self (history object); told_begins = (history object, refl); heard_of = omega arith; turn_has_log = λ _. refl; out_has_turn = λ out. out };
    alone = λ k view at turn. absurd (true-ne-false true refl (sym (ap (λ v. v.turn) (get-single k view at) ∙ turn)));
    free_or_held = inl refl;
    stored = λ _. record { object = object; slot = refl; origin_is = refl; history_is = refl };
  }

max_thrice : (heard first second : ℕ) → max (max heard first) second ≡ max heard (max first second)
max_thrice heard first second = omega arith

pub informed_twice : {Entry Origin : Type 0} (view : SeatView Entry Origin) (first second : ℕ) → informed (informed view first) second ≡ informed view (max first second)
informed_twice view first second = ap (λ n. record view { heard = n }) (max_thrice view.heard first second)

-- a seat that loads again and again has heard of the greatest length that it found
pub hears_again : {O Entry Origin : Type 0} (first before after : Me O (SeatView Entry Origin)) (found limit : ℕ) → found ≤ limit
    → (length : ℕ) × (length ≤ limit) × (before ≡ (informed first.0 length, first.1)) → after ≡ (informed before.0 found, before.1)
    → (length : ℕ) × (length ≤ limit) × (after ≡ (informed first.0 length, first.1))
hears_again {O} {Entry} {Origin} first before after found limit less so now = (
  max so.0 found,
  (let less_so = so.1 in omega arith),
  now ∙ (ap (λ (me : Me O (SeatView Entry Origin)). (informed me.0 found, me.1)) so.2 ∙ ap (λ (view : SeatView Entry Origin). (view, first.1)) (informed_twice first.0 so.0 found)),
)
