-- Prefixes of one list.
use Rattle.std.proofs.Common.{◌≡◌, ℕ, zero, suc, ◌≤◌, List, [], ◌∷◌, ◌++◌, length, Some, slice_get, refl, ap, sym, ◌∙◌, arith, append_assoc, length-append}
use Rattle.std.proofs.lemmas.List.{append-nil}
use mathlib.Core.List.{IsPrefix}

module _ {A : Type 0} where
  pub prefix_self : (xs : List A) → IsPrefix xs xs
  prefix_self xs = ([], append-nil xs)

  pub prefix_trans : (xs ys zs : List A) → IsPrefix xs ys → IsPrefix ys zs → IsPrefix xs zs
  prefix_trans xs ys zs first second = (first.0 ++ second.0, sym (append_assoc xs first.0 second.0) ∙ (ap (λ front. front ++ second.0) first.1 ∙ second.1))

  -- of two prefixes of one list the shorter is a prefix of the longer
  pub prefix_shorter : (xs ys zs : List A) → IsPrefix xs zs → IsPrefix ys zs → length xs ≤ length ys → IsPrefix xs ys
  prefix_shorter [] ys zs first second le = (ys, refl)
  prefix_shorter (x ∷ xs) [] zs first second le = absurd (omega arith)
  prefix_shorter (x ∷ xs) (y ∷ ys) [] first second le = absurd (cc (first.1))
  prefix_shorter (x ∷ xs) (y ∷ ys) (z ∷ zs) first second le =
      let heads : x ≡ y = cc (first.1, second.1) in
      let rest = prefix_shorter xs ys zs (first.0, cc (first.1)) (second.0, cc (second.1)) (omega arith) in
      (rest.0, cc (heads, rest.1))

  pub prefix_length : (xs ys : List A) → IsPrefix xs ys → length xs ≤ length ys
  prefix_length xs ys prefix = omega (arith, sym (ap length prefix.1) ∙ length-append xs prefix.0)

  -- what stands in a prefix stands in the whole, at the same place
  pub prefix_get : (xs ys : List A) (place : ℕ) (x : A) → IsPrefix xs ys → slice_get xs place ≡ Some x → slice_get ys place ≡ Some x
  prefix_get [] ys place x prefix there = absurd cc
  prefix_get (y ∷ xs) [] place x prefix there = absurd (cc (prefix.1))
  prefix_get (y ∷ xs) (z ∷ ys) zero x prefix there = cc (prefix.1, there)
  prefix_get (y ∷ xs) (z ∷ ys) (suc place) x prefix there = prefix_get xs ys place x (prefix.0, cc (prefix.1)) there
