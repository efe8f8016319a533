use Rattle.cells.proofs.TableLemmas.{below_in_table}
use Rattle.cells.proofs.rows.below.Goals as goal

pub returns : goal.returns
returns c = below_in_table c.args.column c.requires
