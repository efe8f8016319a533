-- In a list whose keys rise at most one item has a key.
use Rattle.std.proofs.Common.{◌≡◌, Bool, true, false, cond, List, [], ◌∷◌, map, Some, None, refl, sym, ◌∙◌, ap}
use Rattle.std.specs.List.{find, list_all}
use Rattle.std.specs.Ordering.{is_lt}
use Rattle.std.specs.declared.cmp.Ordering.{Ordering}
use Rattle.std.specs.FinMap.Entries.{below_all, is_sorted}
use Rattle.std.proofs.lemmas.Bool.{and_parts}

-- what is found passes the test
pub found_passes : {X : Type 0} (p : X → Bool) (xs : List X) (u : X) → find p xs ≡ Some u → p u ≡ true
found_passes p [] u h = cc
found_passes {X} p (x ∷ xs) u h = by (p x) refl (found_passes p xs u) h
  where
    by : (b : Bool) → p x ≡ b → (find p xs ≡ Some u → p u ≡ true) → cond b (Some x) (find p xs) ≡ Some u → p u ≡ true
    by true e rest h = let same : x ≡ u = cc in ap p (sym same) ∙ e
    by false e rest h = rest h

-- what holds of all holds of what is found
pub found_of_all : {X : Type 0} (p q : X → Bool) (xs : List X) (u : X) → list_all q xs ≡ true → find p xs ≡ Some u → q u ≡ true
found_of_all p q [] u all h = cc
found_of_all {X} p q (x ∷ xs) u all h =
    let parts = and_parts (q x) (list_all q xs) all in
    by (p x) parts.0 (found_of_all p q xs u parts.1) h
  where
    by : (b : Bool) → q x ≡ true → (find p xs ≡ Some u → q u ≡ true) → cond b (Some x) (find p xs) ≡ Some u → q u ≡ true
    by true e rest h = let same : x ≡ u = cc in ap q (sym same) ∙ e
    by false e rest h = rest h

module _ {X K : Type 0} (R : K → K → Ordering) (key : X → K) (same : K → K → Bool) (apart : (a b k : K) → is_lt (R a b) ≡ true → same a k ≡ true → same b k ≡ false) where
  abbrev keyed : List X → List (K × X)
  keyed xs = map (λ x. (key x, x)) xs

  -- behind the item of that key none has it
  none_behind : (q : X → Bool) (k : K) → ((x : X) → q x ≡ true → same (key x) k ≡ true) → (a : K) (xs : List X) → below_all R a (keyed xs) ≡ true → same a k ≡ true → find q xs ≡ None
  none_behind q k has a [] h is = refl
  none_behind q k has a (x ∷ xs) h is =
      let hs = and_parts (is_lt (R a (key x))) (below_all R a (keyed xs)) h in
      by (q x) refl (apart a (key x) k hs.0 is) (none_behind q k has a xs hs.1 is)
    where
      by : (b : Bool) → q x ≡ b → same (key x) k ≡ false → find q xs ≡ None → cond b (Some x) (find q xs) ≡ None
      by true e differ rest = let both : true ≡ false = sym (has x e) ∙ differ in cc
      by false e differ rest = rest

  -- an item of that key that is found by a further test is the item of that key
  pub find_one : (q : X → Bool) (k : K) → ((x : X) → q x ≡ true → same (key x) k ≡ true) → (xs : List X) (u : X) → is_sorted R (keyed xs) ≡ true → find q xs ≡ Some u → find (λ x. same (key x) k) xs ≡ Some u
  find_one q k has [] u sorted h = cc
  find_one q k has (x ∷ xs) u sorted h =
      let hs = and_parts (below_all R (key x) (keyed xs)) (is_sorted R (keyed xs)) sorted in
      by (same (key x) k) (q x) refl refl (λ is. none_behind q k has (key x) xs hs.0 is) (find_one q k has xs u hs.1) h
    where
      by : (b c : Bool) → same (key x) k ≡ b → q x ≡ c → (same (key x) k ≡ true → find q xs ≡ None) → (find q xs ≡ Some u → find (λ x. same (key x) k) xs ≡ Some u)
          → cond c (Some x) (find q xs) ≡ Some u → cond b (Some x) (find (λ x. same (key x) k) xs) ≡ Some u
      by true true e f none rest h = h
      by true false e f none rest h = let z : None ≡ Some u = sym (none e) ∙ h in cc
      by false true e f none rest h = let both : true ≡ false = sym (has x f) ∙ e in cc
      by false false e f none rest h = rest h
