-- Tables, entry by entry.
use Rattle.std.proofs.Common.{◌≡◌, ℕ, ◌+◌, ◌-◌, ◌^◌, ◌<◌, ◌≤◌, Bool, true, ◌&&◌, nat_eq, List, [], ◌∷◌, length, slice_index_or, zero, suc, refl, arith, ap, ◌∙◌}
use Rattle.std.proofs.lemmas.Bool.Decides.{nat_tests}
use Rattle.cells.specs.declared.rows.TheConstants.{BELOW}

-- the entries of a table pass a test, each with its place, of which the first is n
are_all : (ℕ → ℕ → Bool) → ℕ → List ℕ → Bool
are_all test n [] = true
are_all test n (x ∷ xs) = test n x && are_all test (n + 1) xs

both : (a b : Bool) → (a && b) ≡ true → (a ≡ true) × (b ≡ true)
both a b h = grind arith

entry_is : (test : ℕ → ℕ → Bool) (n : ℕ) (xs : List ℕ) (i place : ℕ) → place ≡ n + i → are_all test n xs ≡ true → i < length xs → test place (slice_index_or xs i 0) ≡ true
unfolding are_all
entry_is test n [] i place e h lt = absurd (omega (arith, lt))
entry_is test n (x ∷ xs) zero place e h lt = ap (λ (k : ℕ). test k x) (omega (arith, e)) ∙ (both (test n x) (are_all test (n + 1) xs) h).0
entry_is test n (x ∷ xs) (suc i) place e h lt =
    entry_is test (n + 1) xs i place (omega (arith, e)) (both (test n x) (are_all test (n + 1) xs) h).1 (omega (arith, lt))

same : (a b : ℕ) → nat_eq a b ≡ true → a ≡ b
same a b h = grind (arith, nat_tests)

pub below_in_table : (column : ℕ) → column ≤ 96 → slice_index_or BELOW column 0 ≡ 2 ^ column - 1
unfolding are_all
below_in_table column few = same _ _ (entry_is (λ n x. nat_eq x (2 ^ n - 1)) 0 BELOW column column (omega arith) refl (omega arith))
