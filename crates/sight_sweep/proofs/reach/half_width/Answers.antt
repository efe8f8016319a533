use Rattle.sight_sweep.proofs.ReachLemmas.{half_in_table}
use Rattle.sight_sweep.proofs.reach.half_width.Goals as goal

pub returns-clause-within : goal.returns-clause-within
returns-clause-within c = (half_in_table c.args.apart c.requires).0

pub returns-clause-most : goal.returns-clause-most
returns-clause-most c = (half_in_table c.args.apart c.requires).1

pub returns-clause-small : goal.returns-clause-small
returns-clause-small c = (half_in_table c.args.apart c.requires).2
