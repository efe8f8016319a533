-- What every step's proof rests on: the rule stays where one seat's view changes.
use Rattle.std.proofs.Common.{◌≡◌, ℕ, subst, zero, suc, ◌≢◌, ◌⊎◌, Bool, true, false, List, [], ◌∷◌, length, set, sym, refl, ap, ◌∙◌, inl, inr, ⊎_elim, arith, Some}
use mathlib.Core.Option.{some, some-injective, some-ne-none}
use mathlib.Core.Logic.{dite}
use native.Mathlib.Decide.{ℕ_discrete}
use lib.ListN.{get_elem?}
use Rattle.atomic_table.specs.Table.{State}
use Rattle.atomic_table.proofs.Lists.{at_set, set_else}
use Rattle.std.proofs.lemmas.Bool.{false_from_ne_true}
use Rattle.turn_lock.specs.declared.view.SeatView.{SeatView}
use Rattle.turn_lock.specs.Order.{Knows, IsStored, IsOrderly}

pub true-ne-false : (b : Bool) → b ≡ true → b ≡ false → ⊥
true-ne-false b is_true is_false = cc

module _ {A : Type 0} where
  pub get-set_here : (xs : List A) (i : ℕ) (new old : A) → get_elem? xs i ≡ some old → get_elem? (set xs i new) i ≡ some new
  get-set_here [] i new old there = absurd (some-ne-none old (sym there))
  get-set_here (x ∷ xs) zero new old there = refl
  get-set_here (x ∷ xs) (suc i) new old there = get-set_here xs i new old there

  pub same_here : (xs : List A) (i : ℕ) (x y : A) → get_elem? xs i ≡ some x → get_elem? xs i ≡ some y → x ≡ y
  same_here xs i x y first second = some-injective x y (sym first ∙ second)

  pub set-single : (xs : List A) (x : A) → length xs ≡ 1 → set xs 0 x ≡ x ∷ []
  set-single [] x one = absurd (omega arith)
  set-single (y ∷ []) x one = refl
  set-single (y ∷ z ∷ xs) x one = absurd (omega arith)

  pub get-single : {x : A} (i : ℕ) (y : A) → get_elem? (x ∷ []) i ≡ some y → x ≡ y
  get-single {x} zero y there = some-injective x y there
  get-single {x} (suc i) y there = absurd (some-ne-none y (sym there))

  pub some-same : {x y : A} → Some x ≡ Some y → x ≡ y
  some-same same = cc same

  -- a fact of each element, after one was set
  pub each_set : (P : A → Type 0) (xs : List A) (i : ℕ) (x : A) → P x → ((k : ℕ) (y : A) → k ≢ i → get_elem? xs k ≡ some y → P y) → (k : ℕ) (y : A) → get_elem? (set xs i x) k ≡ some y → P y
  each_set P xs i x here others k y there = ⊎_elim (λ same. subst P same.1 here) (λ other. others k y other.0 other.1) (at_set xs i k x y there)

module _ {O Entry Origin : Type 0} (origin : O → Origin) (history : O → List Entry) (start : Origin) where
  abbrev pub Rule : State O (SeatView Entry Origin) → Type 0
  Rule = IsOrderly origin history start

  abbrev pub FreeOrHeld : List (SeatView Entry Origin) → ℕ → ℕ → Type 0
  FreeOrHeld views busy holder = (busy ≡ 0) ⊎ ((view : SeatView Entry Origin) × (get_elem? views holder ≡ some view) × (view.turn ≡ true))

  -- a seat's new view has the turn where the old one had it
  pub free_or_held-set : (views : List (SeatView Entry Origin)) (busy holder seat : ℕ) (old new : SeatView Entry Origin) → get_elem? views seat ≡ some old → new.turn ≡ old.turn
      → FreeOrHeld views busy holder → FreeOrHeld (set views seat new) busy holder
  free_or_held-set views busy holder seat old new there turn either = ⊎_elim (λ free. inl free) (λ held. inr (dite (ℕ_discrete holder seat)
      (λ same. let here : get_elem? views seat ≡ some held.0 = subst (λ n. get_elem? views n ≡ some held.0) same held.1 in
      (new, subst (λ n. get_elem? (set views seat new) n ≡ some new) (sym same) (get-set_here views seat new old there), turn ∙ (ap (λ view. view.turn) (same_here views seat old held.0 there here) ∙ held.2)))
      (λ other. (held.0, set_else views seat holder new other ∙ held.1, held.2)))) either

  -- a seat's new view has the turn and the object where the old one had them, and the log is the same
  unfoldable pub renews : (state : State O (SeatView Entry Origin)) (rule : Rule state) (seat : ℕ) (old new : SeatView Entry Origin) → get_elem? state.views seat ≡ some old
      → Knows start rule.log new → new.turn ≡ old.turn → new.out ≡ old.out
      → (words : List ℕ) → words ≡ length rule.log ∷ rule.busy ∷ [] → Rule record { words = words; homes = state.homes; views = set state.views seat new }
  renews state rule seat old new there knows turn out words are = record {
    log = rule.log;
    busy = rule.busy;
    holder = rule.holder;
    words = are;
    each = each_set (Knows start rule.log) state.views seat new knows (λ k view other at. rule.each k view at);
    alone = λ k view at has. ⊎_elim
        (λ same. subst (λ n. (rule.busy ≡ 1) × (n ≡ rule.holder)) (sym same.0) (rule.alone seat old there (sym turn ∙ (ap (λ v. v.turn) same.1 ∙ has))))
        (λ other. rule.alone k view other.1 has)
        (at_set state.views seat k new view at);
    free_or_held = free_or_held-set state.views rule.busy rule.holder seat old new there turn rule.free_or_held;
    stored = λ none. rule.stored (λ k view at. dite (ℕ_discrete k seat)
        (λ same. ap (λ v. v.out) (same_here state.views seat view old (subst (λ n. get_elem? state.views n ≡ some view) same at) there) ∙ (sym out ∙ none seat new (get-set_here state.views seat new old there)))
        (λ other. none k view (set_else state.views seat k new other ∙ at)));
  }

  -- while a seat has the turn and not the object, the object is in its slot
  pub stored_at : (state : State O (SeatView Entry Origin)) (rule : Rule state) (seat : ℕ) (view : SeatView Entry Origin) → get_elem? state.views seat ≡ some view → view.turn ≡ true → view.out ≡ false
      → IsStored origin history start rule.log state.homes
  stored_at state rule seat view there has in_slot = rule.stored (λ k other at. false_from_ne_true other.out (λ out.
      let other_holds = (rule.alone k other at ((rule.each k other at).out_has_turn out)).1 in
      let this_holds = (rule.alone seat view there has).1 in
      true-ne-false other.out out (ap (λ v. v.out) (same_here state.views seat other view (subst (λ n. get_elem? state.views n ≡ some other) (other_holds ∙ sym this_holds) at) there) ∙ in_slot)))
