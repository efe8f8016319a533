use Rattle.cells.specs.Cells.{has}
use Rattle.vision.proofs.RowLemmas.{no_column}
use Rattle.vision.proofs.seen.common_columns.Goals as goal

pub returns : goal.returns
returns c none x hx =
    no_column c.columns_of.result c.columns_of-2.result x c.args.width (has c.args.one.now x c.args.y) (has c.args.other.now x c.args.y) none
    (c.columns_of.ensures x) (c.columns_of-2.ensures x) hx
