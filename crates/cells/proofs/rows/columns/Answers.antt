use Rattle.std.proofs.Common.{arith}
use Rattle.std.proofs.lemmas.Nat.Bits.{bit_at-zero}
use Rattle.cells.proofs.CommonRowLemmas.{mask_columns, no_columns}
use Rattle.cells.proofs.rows.columns.Goals as goal

pub returns-then-past-first : goal.returns-then-past-first
returns-then-past-first c = λ x. no_columns c.args.first c.args.past x _ (omega arith) (bit_at-zero x)

pub returns : goal.returns
returns c = λ x. rw c.mask.ensures (mask_columns c.args.first c.args.past x (omega arith))
