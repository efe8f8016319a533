-- Numbers of places that are on a map.
use Rattle.std.proofs.Common.{◌≡◌, ℕ, ◌+◌, ◌*◌, ◌≤◌, true, ℤ, pos, negsuc, refl, arith}
use Rattle.std.specs.Prelude.{nat_le}
use Rattle.std.proofs.lemmas.Bool.{and_parts}
use Rattle.std.proofs.lemmas.Bool.Decides.{nat_tests}
use Rattle.cells.specs.Cells.{Extent}
use Rattle.command_rules.specs.Places.{Numbers, fits_along, fits_at, coordinate, rect_fits, point_fits}

-- a number that fits isn't negative, and is at most what it fits along
pub along : (most more : ℕ) (n : ℤ) → fits_along most more n ≡ true → (pos (coordinate n) ≡ n) × (coordinate n + more ≤ most)
along most more (pos n) h = (refl, low n more most h)
  where
    low : (n more most : ℕ) → nat_le (n + more) most ≡ true → n + more ≤ most
    low n more most h = grind (arith, nat_tests)
along most more (negsuc n) h = cc

pub column : (size : Extent) (side : ℕ) (place : ℤ × ℤ) → fits_at size side place ≡ true → (pos (coordinate place.0) ≡ place.0) × (coordinate place.0 + side ≤ size.w)
column size side place h = along size.w side place.0 (and_parts _ _ h).0

pub row : (size : Extent) (side : ℕ) (place : ℤ × ℤ) → fits_at size side place ≡ true → (pos (coordinate place.1) ≡ place.1) × (coordinate place.1 + side ≤ size.h)
row size side place h = along size.h side place.1 (and_parts _ _ h).1

pub columns : (size : Extent) (rect : Numbers) → rect_fits size rect ≡ true → (pos (coordinate rect.0) ≡ rect.0) × (coordinate rect.0 + coordinate rect.2 ≤ size.w)
columns size rect h = along size.w (coordinate rect.2) rect.0 (and_parts _ _ h).0

pub rows : (size : Extent) (rect : Numbers) → rect_fits size rect ≡ true → (pos (coordinate rect.1) ≡ rect.1) × (coordinate rect.1 + coordinate rect.3 ≤ size.h)
rows size rect h = along size.h (coordinate rect.3) rect.1 (and_parts _ _ h).1

pub point_column : (size : Extent) (point : ℤ × ℤ) → point_fits size point ≡ true → (pos (coordinate point.0) ≡ point.0) × (coordinate point.0 + 0 ≤ 2 * size.w)
point_column size point h = along (2 * size.w) 0 point.0 (and_parts _ _ h).0

pub point_row : (size : Extent) (point : ℤ × ℤ) → point_fits size point ≡ true → (pos (coordinate point.1) ≡ point.1) × (coordinate point.1 + 0 ≤ 2 * size.h)
point_row size point h = along (2 * size.h) 0 point.1 (and_parts _ _ h).1
