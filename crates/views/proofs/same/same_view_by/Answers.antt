use Rattle.views.proofs.SameLemmas.{same_view-tells}
use Rattle.views.proofs.Told.{told}
use Rattle.views.proofs.same.same_view_by.Goals as goal

pub returns-clause-tells : goal.returns-clause-tells
returns-clause-tells c = told _ _ c.same_view_parts.ensures (same_view-tells c.args.a.now c.args.b.now)
