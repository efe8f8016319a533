-- Numbers in decimal, without a leading zero and with so many digits at most.
use Rattle.std.specs.Prelude.{◌≡◌, ◌⊎◌, ℕ, zero, suc, ◌+◌, ◌-◌, ◌*◌, ◌≤◌, Bool, ◌&&◌, cond, List, [], ◌∷◌, length, Some, nat_le, nat_eq}
use Rattle.reading.specs.Reading.{Read, bind, item}

abbrev pub IsDigit : ℕ → Type 0
IsDigit b = (48 ≤ b) × (b ≤ 57)

abbrev pub AreDigits : List ℕ → Type 0
AreDigits [] = Unit {0}
AreDigits (b ∷ s) = IsDigit b × AreDigits s

-- the digits' value, behind digits of the value so_far
abbrev pub value_after : ℕ → List ℕ → ℕ
value_after so_far [] = so_far
value_after so_far (b ∷ s) = value_after (10 * so_far + (b - 48)) s

-- "0", or a digit from 1 on and at most so many further digits
abbrev pub IsNumber : ℕ → List ℕ → ℕ → Type 0
IsNumber further [] n = ⊥
IsNumber further (b ∷ s) n = ((b ≡ 48) × (s ≡ []) × (n ≡ 0)) ⊎ ((49 ≤ b) × (b ≤ 57) × AreDigits s × (length s ≤ further) × (n ≡ value_after (b - 48) s))

-- ---- the same, as it is read

abbrev pub is_digit : ℕ → Bool
is_digit b = nat_le 48 b && nat_le b 57

-- at most so many digits
abbrev pub digits_at : ℕ → ℕ → Read ℕ
digits_at zero so_far s = (Some so_far, s)
digits_at (suc most) so_far [] = (Some so_far, [])
digits_at (suc most) so_far (b ∷ s) = cond (is_digit b) (digits_at most (10 * so_far + (b - 48)) s) (Some so_far, b ∷ s)

unfoldable pub number_at : ℕ → Read ℕ
number_at further = bind (item is_digit) (λ b. digits_at (cond (nat_eq b 48) 0 further) (b - 48))
