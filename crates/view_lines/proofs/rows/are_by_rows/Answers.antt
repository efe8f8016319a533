use Rattle.std.proofs.Common.{arith}
use Rattle.view_lines.proofs.RowLemmas.{rows_rise}
use Rattle.view_lines.proofs.rows.are_by_rows.Goals as goal

pub returns : goal.returns
returns c = λ t. rows_rise c.args.letters.now (λ k d l. c.loop-i.invariant k d (omega arith))
