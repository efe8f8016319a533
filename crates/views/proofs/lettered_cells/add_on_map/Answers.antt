use Rattle.views.proofs.LetteredLemmas.{off_map_by_test}
use Rattle.views.proofs.lettered_cells.add_on_map.Goals as goal

pub returns-else-has : goal.returns-else-has
returns-else-has c = off_map_by_test c.args.cells.now c.size.result c.args.cell c.has.result c.size.ensures.told c.size.ensures.value c.has.ensures c.if-has.false
