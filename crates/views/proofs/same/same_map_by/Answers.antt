use Rattle.views.proofs.SameLemmas.{same_map-tells}
use Rattle.views.proofs.Told.{told}
use Rattle.views.proofs.same.same_map_by.Goals as goal

pub returns-clause-tells : goal.returns-clause-tells
returns-clause-tells c = told _ _ c.same_map_parts.ensures (same_map-tells c.args.a.now c.args.b.now)
