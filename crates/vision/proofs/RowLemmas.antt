-- Rows in which two sets share no cell.
use Rattle.std.proofs.Common.{arith, ◌≡◌, ℕ, ◌<◌, Bool, true, false, ◌&&◌, nat_eq, nat_lt, ap, sym, refl, ◌∙◌, bit_and}
use Rattle.std.specs.Prelude.{nat_le}
use Rattle.std.proofs.lemmas.Bool.Decides.{nat_tests}
use Rattle.std.proofs.lemmas.Nat.Bits.{bit_at-zero}
use Rattle.cells.specs.Cells.{has_column}
use Rattle.cells.proofs.RowsLemmas.{bit_and_test}

-- words that share no bit have no column in common
pub no_column : (m n x width : ℕ) (p q : Bool) → bit_and m n ≡ 0 → has_column m x ≡ (p && (nat_le 0 x && nat_lt x width))
    → has_column n x ≡ (q && (nat_le 0 x && nat_lt x width)) → x < width → (p && q) ≡ false
no_column m n x width p q none of_m of_n hx =
    both (has_column m x) (has_column n x) p q x width of_m of_n
    (sym (bit_and_test m n x) ∙ ap (λ k. has_column k x) none ∙ ap (λ k. nat_eq k 1) (bit_at-zero x)) hx
  where
    both : (a b p q : Bool) (x width : ℕ) → a ≡ (p && (nat_le 0 x && nat_lt x width)) → b ≡ (q && (nat_le 0 x && nat_lt x width))
        → (a && b) ≡ false → x < width → (p && q) ≡ false
    both a b p q x width e f none hx = grind (arith, nat_tests)

-- of such a row nothing is added
pub no_bright : (own field : ℕ → ℕ → Bool) (y u v : ℕ) (light range there : Bool) → (own u y && field u y) ≡ false
    → (nat_eq v y && ((own u v && field u v && light && range) && there)) ≡ false
no_bright own field y u v light range there none = here (nat_eq v y) (λ e. is e)
  where
    is : nat_eq v y ≡ true → v ≡ y
    is e = grind (arith, nat_tests)

    dark : (o f l r t : Bool) → (o && f) ≡ false → ((o && f && l && r) && t) ≡ false
    dark o f l r t e = grind arith

    here : (b : Bool) → (b ≡ true → v ≡ y) → (b && ((own u v && field u v && light && range) && there)) ≡ false
    here false e = refl
    here true e = dark (own u v) (field u v) light range there (ap (λ n. own u n && field u n) (e refl) ∙ none)
