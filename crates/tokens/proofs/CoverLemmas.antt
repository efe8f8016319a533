-- The test of covered cells.
use Rattle.std.proofs.Common.{◌≡◌, ℕ, ◌+◌, ◌<◌, ◌≤◌, true, ◌&&◌, nat_le, arith}
use Rattle.std.specs.Prelude.{IsTrue, ◌↔◌}
use Rattle.std.proofs.lemmas.Bool.Decides.{nat_tests}
use Rattle.tokens.specs.declared.token.Token.{Token}
use Rattle.tokens.specs.Tokens.{Covers, covers}

spans : (a n x b m y : ℕ) → (nat_le a x && nat_le (x + 1) (a + n) && nat_le b y && nat_le (y + 1) (b + m)) ≡ true
    → (a ≤ x) × (x < a + n) × (b ≤ y) × (y < b + m)
spans a n x b m y h = grind (arith, nat_tests)

spanned : (a n x b m y : ℕ) → a ≤ x → x < a + n → b ≤ y → y < b + m
    → (nat_le a x && nat_le (x + 1) (a + n) && nat_le b y && nat_le (y + 1) (b + m)) ≡ true
spanned a n x b m y h i j k = grind (arith, nat_tests)

covered : (t : Token) (x y : ℕ) → covers t x y ≡ true → Covers t x y
covered t x y h =
    let s = spans t.cell.x t.size x t.cell.y t.size y h in
    record { left = s.0; right = s.1; above = s.2; under = s.3 }

pub covers_tells : (t : Token) (x y : ℕ) → IsTrue (covers t x y) ↔ Covers t x y
covers_tells t x y = (λ h. covered t x y h, λ h. spanned t.cell.x t.size x t.cell.y t.size y h.left h.right h.above h.under)
