-- The owners among the first seats.
use Rattle.std.proofs.Common.{◌≡◌, ℕ, zero, suc, ◌+◌, List, [], ◌∷◌, ◌++◌, map, refl, sym, ap, ◌∙◌, arith, true, false, Bool, cond}
use Rattle.std.proofs.lemmas.List.{append-nil}
use Rattle.std.specs.List.{filter, range_with_len}

abbrev among : (ℕ → Bool) → ℕ → ℕ → List ℕ
among p from count = filter p (range_with_len from count)

one_more : (p : ℕ → Bool) (count from : ℕ) → among p from (suc count) ≡ among p from count ++ among p (from + count) (suc zero)
one_more p zero from = let e : from ≡ from + 0 = omega arith in ap (λ n. among p n (suc zero)) e
one_more p (suc count) from =
    let e : (from + 1) + count ≡ from + suc count = omega arith in
    by (p from) (one_more p count (from + 1) ∙ ap (λ n. among p (from + 1) count ++ among p n (suc zero)) e)
  where
    by : (b : Bool) → among p (from + 1) (suc count) ≡ among p (from + 1) count ++ among p (from + suc count) (suc zero)
        → cond b (from ∷ among p (from + 1) (suc count)) (among p (from + 1) (suc count)) ≡ cond b (from ∷ among p (from + 1) count) (among p (from + 1) count) ++ among p (from + suc count) (suc zero)
    by true e = ap (λ l. from ∷ l) e
    by false e = e

last_of : (p : ℕ → Bool) (n : ℕ) → among p 0 (n + 1) ≡ among p 0 n ++ cond (p n) (n ∷ []) []
last_of p n =
    let next : n + 1 ≡ suc n = omega arith in
    let at : 0 + n ≡ n = omega arith in
    ap (among p 0) next ∙ one_more p n 0 ∙ ap (λ k. among p 0 n ++ cond (p k) (k ∷ []) []) at

map_last : {A B : Type 0} (f : A → B) (xs : List A) (x : A) → map f (xs ++ x ∷ []) ≡ map f xs ++ f x ∷ []
map_last f [] x = refl
map_last f (y ∷ xs) x = ap (λ l. f y ∷ l) (map_last f xs x)

-- what is made of those of the first numbers that pass a test, with the next number
module _ {V A : Type 0} (view : V → A) (f : ℕ → A) (p : ℕ → Bool) (n : ℕ) (vs : List V) (was : map view vs ≡ map f (filter p (range_with_len 0 n))) where
  pub none_more : p n ≡ false → map view vs ≡ map f (filter p (range_with_len 0 (n + 1)))
  none_more fails = was ∙ ap (map f) (sym (last_of p n ∙ ap (λ b. among p 0 n ++ cond b (n ∷ []) []) fails ∙ append-nil (among p 0 n)))

  pub taken_more : p n ≡ true → (v : V) (ws : List V) → ws ≡ vs ++ v ∷ [] → view v ≡ f n → map view ws ≡ map f (filter p (range_with_len 0 (n + 1)))
  taken_more passes v ws new is =
      ap (map view) new ∙ map_last view vs v ∙ (λ i. was i ++ is i ∷ []) ∙ sym (map_last f (among p 0 n) n)
      ∙ ap (map f) (sym (last_of p n ∙ ap (λ b. among p 0 n ++ cond b (n ∷ []) []) passes))
