use Rattle.std.proofs.Common.{arith}
use Rattle.std.proofs.Math.Pow.{pow_mono, pow_pos}
use Rattle.cells.proofs.rows.mask.Goals as goal

pub overflow_sub-result : goal.overflow_sub-result
overflow_sub-result c = omega (arith, c.below.ensures, c.below-2.ensures, pow_mono {i = c.args.first} {j = c.args.past} c.requires.ordered)

pub returns : goal.returns
returns c = omega (arith, c.below.ensures, c.below-2.ensures, pow_pos c.args.first, pow_pos c.args.past)
