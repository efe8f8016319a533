-- One seat's bit, set or cleared.
use Rattle.std.proofs.Common.{◌≡◌, ℕ, ◌*◌, ◌^◌, ◌%◌, ◌<◌, ◌≤◌, ◌||◌, Bool, true, false, cond, nat_eq, refl, ap, arith, ◌∙◌, sym, inl, inr, bit_or, bit_and}
use Rattle.std.specs.Int.{bit_not, w64}
use Rattle.std.proofs.lemmas.Bool.{cases_eq}
use Rattle.std.proofs.lemmas.Bool.Decides.{nat_tests}
use Rattle.std.proofs.lemmas.Nat.{or_lt, and_le_l}
use Rattle.std.proofs.lemmas.Nat.Bits.{bit_at-lt, same_from_bits_below, bit_at_set_same, bit_at_set_other, bit_at_clear_same, bit_at_clear_other}
use Rattle.std.proofs.Math.Nat.{one-mul, mod-eq_of_lt}
use Rattle.std.proofs.Math.Pow.{pow-lt}
use Rattle.cells.specs.Cells.{row_where}
use Rattle.cells.proofs.RowsLemmas.{bit_or_test}
use Rattle.cells.proofs.SetLaws.{row_where_lt, bit_at_row_where, bit_of_test}
use Rattle.tokens.specs.Owners.{has_owner, owners_where, with_owner}

-- a number whose bits are ones where a test holds is the owners of which it holds
owners_same : (n : ℕ) (test : ℕ → Bool) → n < 2 ^ 33 → ((k : ℕ) → k < 33 → has_owner n k ≡ test k) → n ≡ owners_where test
unfolding owners_where
owners_same n test small each =
    same_from_bits_below 33 n (row_where test 33) small (row_where_lt test 33)
    (λ k h. bit_of_test _ _ (bit_at-lt n k) (each k h) ∙ sym (bit_at_row_where test 33 k h))

seat_bit : (s : ℕ) → s ≤ 32 → 1 * 2 ^ s % 2 ^ 64 < 2 ^ 33
seat_bit s h =
    let fits : 2 ^ s < 2 ^ 33 = pow-lt {i = s} {j = 33} (omega arith) in
    let e : 1 * 2 ^ s % 2 ^ 64 ≡ 2 ^ s = rw one-mul (mod-eq_of_lt (omega arith)) in
    rw e fits

pub added_lt : (n s : ℕ) → n < 2 ^ 33 → s ≤ 32 → bit_or n (1 * 2 ^ s % 2 ^ 64) < 2 ^ 33
added_lt n s small h = or_lt 33 n (1 * 2 ^ s % 2 ^ 64) small (seat_bit s h)

here : (b on : Bool) (s : ℕ) → on ≡ cond (nat_eq s s) on b
here b on s = grind (arith, nat_tests)

there : (b on : Bool) (k s : ℕ) → (k ≡ s → ⊥) → b ≡ cond (nat_eq k s) on b
there b on k s ne = grind (arith, nat_tests)

pub added : (n s : ℕ) → n < 2 ^ 33 → s ≤ 32 → bit_or n (1 * 2 ^ s % 2 ^ 64) ≡ with_owner n s true
added n s small h =
    owners_same (bit_or n (1 * 2 ^ s % 2 ^ 64)) (λ k. cond (nat_eq k s) true (has_owner n k)) (added_lt n s small h)
    (λ k _. elim (cases_eq k s) [
      | inl e ↦ rw (e, bit_at_set_same w64 n s (omega arith)) (here (has_owner n s) true s)
      | inr ne ↦ rw (bit_at_set_other w64 n s (omega arith) k ne) (there (has_owner n k) true k s ne)
    ])

pub removed_lt : (n s : ℕ) → n < 2 ^ 33 → bit_and n (bit_not w64 (1 * 2 ^ s % 2 ^ 64)) < 2 ^ 33
removed_lt n s small = omega (arith, and_le_l n (bit_not w64 (1 * 2 ^ s % 2 ^ 64)))

pub removed : (n s : ℕ) → n < 2 ^ 33 → s ≤ 32 → bit_and n (bit_not w64 (1 * 2 ^ s % 2 ^ 64)) ≡ with_owner n s false
removed n s small h =
    owners_same (bit_and n (bit_not w64 (1 * 2 ^ s % 2 ^ 64))) (λ k. cond (nat_eq k s) false (has_owner n k)) (removed_lt n s small)
    (λ k below. elim (cases_eq k s) [
      | inl e ↦ rw (e, bit_at_clear_same w64 n s (omega arith)) (here (has_owner n s) false s)
      | inr ne ↦ rw (bit_at_clear_other w64 n s (omega arith) k (omega arith) ne) (there (has_owner n k) false k s ne)
    ])

-- whether a seat is among the owners, after one of them is set
pub has_with : (n s k : ℕ) (on : Bool) → k ≤ 32 → has_owner (with_owner n s on) k ≡ cond (nat_eq k s) on (has_owner n k)
unfolding owners_where
has_with n s k on h =
    ap (λ bit. nat_eq bit 1) (bit_at_row_where (λ k. cond (nat_eq k s) on (has_owner n k)) 33 k (omega arith))
    ∙ test (cond (nat_eq k s) on (has_owner n k))
  where
    test : (b : Bool) → nat_eq (cond b 1 0) 1 ≡ b
    test true = refl
    test false = refl

pub joined_lt : (a b : ℕ) → a < 2 ^ 33 → b < 2 ^ 33 → bit_or a b < 2 ^ 33
joined_lt a b small also = or_lt 33 a b small also

pub has_joined : (a b k : ℕ) → has_owner (bit_or a b) k ≡ (has_owner a k || has_owner b k)
has_joined a b k = bit_or_test a b k
