-- The letters of the cells of a map: row by row, from left to right.
use Rattle.std.specs.Prelude.{ℕ, ◌+◌, ◌*◌, ◌/◌, ◌%◌, ◌≤◌, if◌then◌else◌, List, map, slice_index}
use Rattle.std.specs.List.{range_with_len}
use Rattle.cells.specs.Cells.{Extent}
use Rattle.cells.specs.Rects.{is_in}
use Rattle.cells.specs.declared.cell.Rect.{Rect}

-- the letter of the cell (x, y)
abbrev pub letter_of : Extent → List ℕ → ℕ → ℕ → ℕ
letter_of size letters x y = slice_index letters (y * size.w + x)

-- the letters of the cells of a map, where the cell (x, y) has the letter f x y
abbrev pub letters_where : Extent → (ℕ → ℕ → ℕ) → List ℕ
letters_where size f = map (λ place. f (place % size.w) (place / size.w)) (range_with_len 0 (size.h * size.w))

-- the rectangle is on a map of that size
abbrev pub IsOn : Extent → Rect → Type 0
IsOn size rect = (rect.x + rect.w ≤ size.w) × (rect.y + rect.h ≤ size.h)

-- the letters, with one letter at each cell of the rectangle
abbrev pub with_rect : Extent → Rect → ℕ → List ℕ → List ℕ
with_rect size rect letter letters = letters_where size (λ x y. if is_in rect x y then letter else letter_of size letters x y)
