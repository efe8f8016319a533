-- The tags and cells of a drill's tokens, by their numbers.
use Rattle.std.specs.Prelude.{ℕ, ◌+◌, ◌*◌, List, ◌++◌, map, codes, decimal}
use Rattle.std.specs.List.{range_with_len}
use Rattle.cells.specs.declared.cell.Cell.{Cell}
use Rattle.drill.specs.Draws.{draw}

-- the tag of the token of number k
abbrev pub tag_at : ℕ → List ℕ
tag_at k = codes "t" ++ decimal k

-- the cell of the token of number k in the drill of number n, by the two draws from the place 2,400 + 2 k on, which follow
-- those of the walls
abbrev pub cell_at : ℕ → ℕ → Cell
cell_at n k = record { x = draw n (2400 + 2 * k) 96; y = draw n (2401 + 2 * k) 96 }

-- the cells of the first so many
abbrev pub cells_up_to : ℕ → ℕ → List Cell
cells_up_to n count = map (cell_at n) (range_with_len 0 count)
