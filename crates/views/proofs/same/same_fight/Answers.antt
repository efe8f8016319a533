use Rattle.views.specs.Same.{same_fight}
use Rattle.views.proofs.SameLemmas.{option_eq-tells, same_fight-tells}
use Rattle.views.proofs.Told.{told}
use Rattle.views.proofs.same.same_fight.Goals as goal

pub returns-clause-tells : goal.returns-clause-tells
returns-clause-tells c = told _ _ c.same_part.ensures (option_eq-tells same_fight same_fight-tells c.args.a.now c.args.b.now)
