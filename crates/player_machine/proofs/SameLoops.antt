-- Steps of loops over lists, place by place.
use Rattle.std.proofs.Common.{◌≡◌, ℕ, suc, ◌+◌, ◌<◌, Bool, ◌&&◌, List, ◌∷◌, Some, refl, ◌∙◌, ap, arith, drop, length, get_or}
use Rattle.std.specs.Prelude.{slice_get}
use Rattle.std.specs.Cmp.Lexicographic.{pointwise}
use Rattle.std.proofs.Math.Seq.{drop-cons}
use Rattle.std.proofs.lemmas.Option.{slice_get_within, get_or_from_slice_get, slice_get_read}

-- the rest from a place on, by what stands there
rest_at : {A : Type 0} (zs : List A) (i : ℕ) (z : A) → slice_get zs i ≡ Some z → drop i zs ≡ z ∷ drop (i + 1) zs
rest_at zs i z is =
    drop-cons zs i z (slice_get_within zs i z is)
    ∙ (let n : suc i ≡ i + 1 = omega arith in ap (λ k. get_or zs i z ∷ drop k zs) n)
    ∙ ap (λ w. w ∷ drop (i + 1) zs) (get_or_from_slice_get zs i z z is)

pub rest_read : {A : Type 0} (zs : List A) (i : ℕ) (z : A) → i < length zs → z ≡ get_or zs i z → drop i zs ≡ z ∷ drop (i + 1) zs
rest_read zs i z within is = rest_at zs i z (slice_get_read zs (length zs) i z refl within is)

pub same_next_at : {A : Type 0} (f : A → A → Bool) (xs ys : List A) (i : ℕ) (x y : A) → slice_get xs i ≡ Some x → slice_get ys i ≡ Some y → pointwise f (drop i xs) (drop i ys) ≡ (f x y && pointwise f (drop (i + 1) xs) (drop (i + 1) ys))
same_next_at f xs ys i x y h g = λ j. pointwise f (rest_at xs i x h j) (rest_at ys i y g j)
