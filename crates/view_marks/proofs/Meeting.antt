-- The players of one more token.
use Rattle.std.proofs.Common.{◌≡◌, ℕ, ◌+◌, Bool, true, false, ◌&&◌, ◌||◌, List, Some, refl, sym, ◌∙◌, take}
use Rattle.std.specs.Prelude.{slice_get}
use Rattle.std.specs.List.{list_any}
use Rattle.player_view.proofs.ListLemmas.{list_any_next}

pub more : {X : Type 0} (test : X → Bool) (xs : List X) (i : ℕ) (x : X) (a b c : Bool) → slice_get xs i ≡ Some x → a ≡ (b || c) → b ≡ list_any test (take i xs) → c ≡ test x
    → a ≡ list_any test (take (i + 1) xs)
more test xs i x a b c at is so_far one = is ∙ (λ k. so_far k || one k) ∙ sym (list_any_next test xs i x at)

or_false : (b : Bool) → b ≡ (b || false)
or_false true = refl
or_false false = refl

pub no_more : {X : Type 0} (test : X → Bool) (xs : List X) (i : ℕ) (x : X) (b : Bool) → slice_get xs i ≡ Some x → b ≡ list_any test (take i xs) → false ≡ test x
    → b ≡ list_any test (take (i + 1) xs)
no_more test xs i x b at so_far none = more test xs i x b b false at (or_false b) so_far none

pub with_both : (a b c : Bool) → true ≡ (a && b) → c ≡ (a && (b && c))
with_both true true c is = refl
with_both true false c is = let never : true ≡ false = is in cc
with_both false b c is = let never : true ≡ false = is in cc

pub without_both : (a b c : Bool) → false ≡ (a && b) → false ≡ (a && (b && c))
without_both true true c is = let never : false ≡ true = is in cc
without_both true false c is = refl
without_both false b c is = refl

pub with_one : (a b : Bool) → true ≡ a → b ≡ (a && b)
with_one true b is = refl
with_one false b is = let never : true ≡ false = is in cc

pub without_one : (a b : Bool) → false ≡ a → false ≡ (a && b)
without_one true b is = let never : false ≡ true = is in cc
without_one false b is = refl
