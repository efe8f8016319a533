-- Places, rectangles and points that commands name by whole numbers, and what of them is on a map.
use Rattle.std.specs.Prelude.{ℕ, ◌+◌, ◌*◌, ◌-◌, ◌==◌, ◌&&◌, not, Bool, true, false, List, [], ◌∷◌, ℤ, pos, negsuc, nat_le, max, min}
use Rattle.lattice.specs.Coordinates.{Coordinates}
use Rattle.cells.specs.Cells.{Extent}
use Rattle.cells.specs.declared.cell.Cell.{Cell}
use Rattle.cells.specs.declared.cell.Rect.{Rect}

-- the number isn't negative, and with so much more it is at most this
abbrev pub fits_along : ℕ → ℕ → ℤ → Bool
fits_along most more (pos n) = nat_le (n + more) most
fits_along most more (negsuc n) = false

-- the square of that side at the place is on a map of the size
abbrev pub fits_at : Extent → ℕ → ℤ × ℤ → Bool
fits_at size side place = fits_along size.w side place.0 && fits_along size.h side place.1

-- the number, or 0 in place of a negative one
abbrev pub coordinate : ℤ → ℕ
coordinate (pos n) = n
coordinate (negsuc n) = 0

-- the cell at a place that is on a map
abbrev pub cell_at : ℤ × ℤ → Cell
cell_at place = record { x = coordinate place.0; y = coordinate place.1 }

-- four numbers: column and row of the upper left cell, width and height
abbrev pub Numbers : Type 0
Numbers = ℤ × ℤ × ℤ × ℤ

abbrev pub rect_at : Numbers → Rect
rect_at numbers = record { x = coordinate numbers.0; y = coordinate numbers.1; w = coordinate numbers.2; h = coordinate numbers.3 }

-- the rectangle is on a map of the size
abbrev pub rect_fits : Extent → Numbers → Bool
rect_fits size numbers = fits_along size.w (coordinate numbers.2) numbers.0 && fits_along size.h (coordinate numbers.3) numbers.1

-- the point, in half cells, is on a map of the size
abbrev pub point_fits : Extent → ℤ × ℤ → Bool
point_fits size point = fits_along (2 * size.w) 0 point.0 && fits_along (2 * size.h) 0 point.1

abbrev pub point_at : ℤ × ℤ → Coordinates
point_at point = record { x = coordinate point.0; y = coordinate point.1 }

-- ---- steps

-- the numbers differ by at most 1
abbrev pub are_near : ℕ → ℕ → Bool
are_near m n = nat_le (max m n - min m n) 1

-- the cells are different, and differ by at most 1 in each coordinate
abbrev pub is_king_step : Cell → Cell → Bool
is_king_step a b = are_near a.x b.x && (are_near a.y b.y && not ((a.x == b.x) && (a.y == b.y)))

-- each cell of the path is a king step from the one before, the first from the given cell
abbrev pub are_king_steps : Cell → List (ℤ × ℤ) → Bool
are_king_steps from [] = true
are_king_steps from (place ∷ path) = is_king_step from (cell_at place) && are_king_steps (cell_at place) path
