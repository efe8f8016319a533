use Rattle.std.proofs.Common.{arith}
use Rattle.sight_sweep.proofs.RowsLemmas.{quotient_reached}
use Rattle.sight_sweep.proofs.rows.most_risen.Goals as goal

pub returns-clause-most : goal.returns-clause-most
returns-clause-most c j k near h =
    quotient_reached c.args.side c.shortened.result j c.args.rise k (omega (arith, c.requires, c.shortened.ensures.some)) c.shortened.ensures.square near h
