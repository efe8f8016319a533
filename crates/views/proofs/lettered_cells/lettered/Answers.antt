use Rattle.std.proofs.Common.{◌∙◌}
use Rattle.views.proofs.LetteredLemmas.{lettered_alone}
use Rattle.views.proofs.lettered_cells.lettered.Goals as goal

pub returns : goal.returns
returns c = c.add_lettered.ensures ∙ lettered_alone c.args.size c.args.letters.now c.in_ok-cells.cells c.in_ok-cells.ensures
