use Rattle.views.proofs.SameLemmas.{same_mode-tells}
use Rattle.views.proofs.Told.{told}
use Rattle.views.proofs.same.same_mode.Goals as goal

pub returns-clause-tells : goal.returns-clause-tells
returns-clause-tells c = told _ _ c.same_number.ensures (same_mode-tells c.args.a c.args.b)
