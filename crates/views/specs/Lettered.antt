-- The cells that have a letter.
use Rattle.std.specs.Prelude.{ℕ, ◌||◌, Bool, List}
use Rattle.std.specs.List.{list_any}
use Rattle.cells.specs.Cell.{is_at}
use Rattle.cells.specs.Cells.{Cells, has, cells_where}
use Rattle.views.specs.Keys.{Letter}

-- whether one of the letters is of the cell (x, y)
abbrev pub has_letter : List Letter → ℕ → ℕ → Bool
has_letter letters x y = list_any (λ letter. is_at letter.0 x y) letters

-- the set with the cells that have a letter
unfoldable pub with_lettered : Cells → List Letter → Cells
with_lettered cells letters = cells_where cells.extent (λ x y. has cells x y || has_letter letters x y)
