-- A list of which the first items were changed, one after the other.
use Rattle.std.proofs.Common.{◌≡◌, ◌<◌, ◌≤◌, ℕ, zero, suc, List, [], ◌∷◌, ◌++◌, length, map, set, take, drop, get_or, refl, ◌∙◌, ap, arith}
use Rattle.std.proofs.lemmas.List.{append-nil, drop_all, take_all}

module _ {A : Type 0} (f : A → A) where
  abbrev pub first_mapped : ℕ → List A → List A
  first_mapped zero xs = xs
  first_mapped (suc i) [] = []
  first_mapped (suc i) (x ∷ xs) = f x ∷ first_mapped i xs

  pub one_more : (i : ℕ) (xs : List A) (d : A) → i < length xs → set (first_mapped i xs) i (f (get_or (first_mapped i xs) i d)) ≡ first_mapped (suc i) xs
  one_more i [] d h = absurd (omega arith)
  one_more zero (x ∷ xs) d h = refl
  one_more (suc i) (x ∷ xs) d h = ap (λ rest. f x ∷ rest) (one_more i xs d (omega arith))

  pub all_mapped : (i : ℕ) (xs : List A) → length xs ≤ i → first_mapped i xs ≡ map f xs
  all_mapped zero [] h = refl
  all_mapped (suc i) [] h = refl
  all_mapped zero (x ∷ xs) h = absurd (omega arith)
  all_mapped (suc i) (x ∷ xs) h = ap (λ rest. f x ∷ rest) (all_mapped i xs (omega arith))

  pub same_length : (i : ℕ) (xs : List A) → length (first_mapped i xs) ≡ length xs
  same_length zero xs = refl
  same_length (suc i) [] = refl
  same_length (suc i) (x ∷ xs) =
      let rest : length (first_mapped i xs) ≡ length xs = same_length i xs in
      omega (arith, rest)

  -- all that was written
  pub all_written : (n i : ℕ) (xs items : List A) → items ≡ first_mapped i xs → length xs ≤ i → length xs ≤ n → take n (items ++ drop (length items) xs) ≡ map f xs
  all_written n i xs items is all long =
      let count : length items ≡ length xs = ap length is ∙ same_length i xs in
      let whole : items ++ drop (length items) xs ≡ items = ap (λ rest. items ++ rest) (drop_all (length items) xs (omega (arith, count))) ∙ append-nil items in
      ap (take n) whole ∙ take_all n items (omega (arith, count, long)) ∙ is ∙ all_mapped i xs all
