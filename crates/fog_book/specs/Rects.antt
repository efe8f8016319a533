-- Rectangles of cells.
use Rattle.std.specs.Prelude.{ℕ, Bool, nat_lt, nat_eq, ◌&&◌, ◌||◌, cond}
use Rattle.cells.specs.declared.cell.Rect.{Rect}
use Rattle.cells.specs.Cells.{Extent, Cells, has, cells_where}
use Rattle.cells.specs.Rects.{is_in}

-- the set with the rectangle's cells, or without them
abbrev pub with_rect : Cells → Rect → Bool → Cells
with_rect cells rect shown = cells_where cells.extent (λ x y. cond (is_in rect x y) shown (has cells x y))

-- the cell (u, v) stands before the cell (x, y) in reading order
abbrev pub is_before : ℕ → ℕ → ℕ → ℕ → Bool
is_before u v x y = nat_lt v y || (nat_eq v y && nat_lt u x)

-- of the cells before (x, y) those at which f holds are told by b, and all others by g
abbrev pub told_before : Extent → (ℕ → ℕ → Bool) → Bool → (ℕ → ℕ → Bool) → ℕ → ℕ → Cells
told_before e f b g x y = cells_where e (λ u v. cond (is_before u v x y && f u v) b (g u v))
