-- Steps of a loop that compares two lists.
use Rattle.std.proofs.Common.{◌≡◌, ℕ, suc, ◌+◌, ◌<◌, ◌≤◌, Bool, true, false, ◌&&◌, List, ◌∷◌, sym, ◌∙◌, ap, arith, drop, length, get_or}
use Rattle.std.proofs.Math.Seq.{drop-cons}
use Rattle.std.proofs.lemmas.List.{drop_all}
use Rattle.std.specs.Cmp.Lexicographic.{pointwise, unequal}

pub same_length : {A : Type 0} (f : A → A → Bool) (xs ys : List A) → (length xs ≡ length ys → ⊥) → pointwise f xs ys ≡ false
same_length f xs ys h = unequal f xs ys h

pub same_next : {A : Type 0} (f : A → A → Bool) (xs ys : List A) (i : ℕ) (x y : A) → i < length xs → i < length ys → x ≡ get_or xs i x → y ≡ get_or ys i y → pointwise f (drop i xs) (drop i ys) ≡ (f x y && pointwise f (drop (i + 1) xs) (drop (i + 1) ys))
same_next {A} f xs ys i x y h g e k = λ j. pointwise f (first xs x h e j) (first ys y g k j)
  where
    first : (zs : List A) (z : A) → i < length zs → z ≡ get_or zs i z → drop i zs ≡ z ∷ drop (i + 1) zs
    first zs z h e = drop-cons zs i z h ∙ (let n : suc i ≡ i + 1 = omega arith in ap (λ k. get_or zs i z ∷ drop k zs) n) ∙ ap (λ w. w ∷ drop (i + 1) zs) (sym e)

pub same_end : {A : Type 0} (f : A → A → Bool) (xs ys : List A) (i : ℕ) → length xs ≤ i → length ys ≤ i → pointwise f (drop i xs) (drop i ys) ≡ true
same_end f xs ys i h g = λ j. pointwise f (drop_all i xs h j) (drop_all i ys g j)
