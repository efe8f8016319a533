use Rattle.views.proofs.SameLemmas.{same_token-tells}
use Rattle.views.proofs.Told.{told}
use Rattle.views.proofs.same.same_token.Goals as goal

pub returns-clause-tells : goal.returns-clause-tells
returns-clause-tells c = told _ _ c.same_token_parts.ensures (same_token-tells c.args.a.now c.args.b.now)
