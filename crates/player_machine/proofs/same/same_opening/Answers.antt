use Rattle.views.proofs.Told.{told}
use Rattle.player_machine.proofs.SameLemmas.{same_opening-tells}
use Rattle.player_machine.proofs.same.same_opening.Goals as goal

pub returns : goal.returns
returns c = told _ _ c.same_opening_parts.ensures (same_opening-tells c.args.a.now c.args.b.now)
