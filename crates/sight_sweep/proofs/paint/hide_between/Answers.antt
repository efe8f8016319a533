use Rattle.std.proofs.Common.{◌∙◌}
use Rattle.sight_sweep.proofs.PaintLemmas.{none_between, run_is_between}
use Rattle.sight_sweep.proofs.paint.hide_between.Goals as goal

pub returns-then-columns : goal.returns-then-columns
returns-then-columns c = c.remove_run.ensures ∙ run_is_between c.args.out.now c.args.y c.args.columns c.requires.first c.if-columns.true

pub returns-else-columns : goal.returns-else-columns
returns-else-columns c = none_between c.args.out.now c.args.y c.args.columns c.requires.told c.if-columns.false
