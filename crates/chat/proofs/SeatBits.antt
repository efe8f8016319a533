-- Which seats a set has.
use Rattle.std.proofs.Common.{◌≡◌, ℕ, ◌*◌, ◌^◌, ◌%◌, ◌<◌, ◌≤◌, ◌-◌, Bool, true, false, ◌||◌, nat_eq, nat_lt, arith, inl, inr, bit_or}
use Rattle.std.specs.Int.{w64}
use Rattle.std.proofs.lemmas.Bool.{cases_eq, cases_lt}
use Rattle.std.proofs.lemmas.Bool.Decides.{nat_tests}
use Rattle.std.proofs.lemmas.Nat.Bits.{bit_at_set_same, bit_at_set_other, bit_at-pow_same, bit_at-pow_other, bit_at_ones, bit_at_ones_above}
use Rattle.std.proofs.Math.Nat.{one-mul, mod-eq_of_lt}
use Rattle.std.proofs.Math.Pow.{pow-lt}
use Rattle.chat.specs.Addresses.{has_seat}

-- a bit that is shifted to a seat's place isn't lost
seat_bit : (s : ℕ) → s ≤ 33 → 1 * 2 ^ s % 2 ^ 64 ≡ 2 ^ s
seat_bit s h =
    let fits : 2 ^ s < 2 ^ 64 = pow-lt {i = s} {j = 64} (omega arith) in
    rw one-mul (mod-eq_of_lt fits)

same : (s : ℕ) → true ≡ nat_eq s s
same s = grind (arith, nat_tests)

other : (k s : ℕ) → (k ≡ s → ⊥) → false ≡ nat_eq k s
other k s ne = grind (arith, nat_tests)

pub one_has : (s : ℕ) → s ≤ 32 → (k : ℕ) → has_seat (1 * 2 ^ s % 2 ^ 64) k ≡ nat_eq k s
one_has s h k =
    rw (seat_bit s (omega arith)) (elim (cases_eq k s) [
      | inl e ↦ rw (e, bit_at-pow_same s) (same s)
      | inr ne ↦ rw (bit_at-pow_other s k ne) (other k s ne)
    ])

joined_same : (b : Bool) (s : ℕ) → true ≡ (b || nat_eq s s)
joined_same b s = grind (arith, nat_tests)

joined_other : (b : Bool) (k s : ℕ) → (k ≡ s → ⊥) → b ≡ (b || nat_eq k s)
joined_other b k s ne = grind (arith, nat_tests)

pub with_has : (n s : ℕ) → s ≤ 32 → (k : ℕ) → has_seat (bit_or n (1 * 2 ^ s % 2 ^ 64)) k ≡ (has_seat n k || nat_eq k s)
with_has n s h k = elim (cases_eq k s) [
  | inl e ↦ rw (e, bit_at_set_same w64 n s (omega arith)) (joined_same (has_seat n s) s)
  | inr ne ↦ rw (bit_at_set_other w64 n s (omega arith) k ne) (joined_other (has_seat n k) k s ne)
]

inside : (k n : ℕ) → k < n → true ≡ nat_lt k n
inside k n h = grind (arith, nat_tests)

outside : (k n : ℕ) → n ≤ k → false ≡ nat_lt k n
outside k n h = grind (arith, nat_tests)

pub below_has : (n : ℕ) → n ≤ 33 → (k : ℕ) → has_seat (1 * 2 ^ n % 2 ^ 64 - 1) k ≡ nat_lt k n
below_has n h k =
    rw (seat_bit n h) (elim (cases_lt k n) [
      | inl lt ↦ rw (bit_at_ones n k lt) (inside k n lt)
      | inr ge ↦ rw (bit_at_ones_above n k ge) (outside k n ge)
    ])
