use Rattle.std.proofs.Common.{arith}
use Rattle.vision.proofs.disc.Disc.common_rows.Goals as goal

pub returns-clause-first : goal.returns-clause-first
returns-clause-first c y below other_below =
    let first = c.rows-self_first.ensures.first y below in
    let second = c.rows-other_first.ensures.first y other_below in
    omega (arith, first, second, c.max.ensures)

pub returns-clause-past : goal.returns-clause-past
returns-clause-past c y inside above other_above =
    let first = c.rows-self_first.ensures.past y inside above in
    let second = c.rows-other_first.ensures.past y inside other_above in
    omega (arith, first, second, c.min.ensures)
