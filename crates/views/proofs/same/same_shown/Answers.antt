use Rattle.views.specs.Same.{same_bool}
use Rattle.views.proofs.SameLemmas.{option_eq-tells, same_bool-tells}
use Rattle.views.proofs.Told.{told}
use Rattle.views.proofs.same.same_shown.Goals as goal

pub returns-clause-tells : goal.returns-clause-tells
returns-clause-tells c = told _ _ c.same_flag.ensures (option_eq-tells same_bool same_bool-tells c.args.a c.args.b)
