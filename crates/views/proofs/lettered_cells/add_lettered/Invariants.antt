use Rattle.std.proofs.Common.{◌≡◌, take}
use Rattle.views.specs.Lettered.{with_lettered}
use Rattle.views.proofs.lettered_cells.add_lettered.Given as goal

abbrev pub invariant-loop-cell : goal.invariant-loop-cell
invariant-loop-cell l = l.cells ≡ with_lettered l.fn.cells (take l.cell-index l.letters)
