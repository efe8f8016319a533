use Rattle.std.proofs.Common.{◌∙◌}
use Rattle.views.proofs.LetteredLemmas.{next_lettered, none_lettered}
use Rattle.views.proofs.lettered_cells.add_lettered.Goals as goal

pub loop-cell-init : goal.loop-cell-init
loop-cell-init c = none_lettered c.args.cells.now c.size.ensures.told

pub loop-cell-preserved : goal.loop-cell-preserved
loop-cell-preserved c =
    c.add_on_map.ensures ∙ next_lettered c.args.cells.now c.loop-cell.cells c.args.letters.now c.loop-cell.cell-index _ c.loop-cell-test.true c.loop-cell.invariant
