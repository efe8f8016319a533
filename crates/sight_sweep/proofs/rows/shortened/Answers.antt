use Rattle.sight_sweep.proofs.RowsLemmas.{longest}
use Rattle.sight_sweep.proofs.rows.shortened.Goals as goal

pub returns-clause-square : goal.returns-clause-square
returns-clause-square c = rw (c.max.ensures, c.max-long.ensures, c.min-short.ensures) (longest c.args.side c.args.rise)
