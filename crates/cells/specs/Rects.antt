-- Rectangles of cells.
use Rattle.std.specs.Prelude.{ℕ, ◌+◌, Bool, nat_le, nat_lt, ◌&&◌}
use Rattle.cells.specs.declared.cell.Rect.{Rect}

-- the cell (x, y) is in the rectangle
abbrev pub is_in : Rect → ℕ → ℕ → Bool
is_in rect x y = nat_le rect.x x && nat_lt x (rect.x + rect.w) && nat_le rect.y y && nat_lt y (rect.y + rect.h)
