use Rattle.views.proofs.Told.{told}
use Rattle.player_machine.specs.Items.{item_of}
use Rattle.player_machine.proofs.SameLemmas.{same_item-tells}
use Rattle.player_machine.proofs.same.same_item.Goals as goal

pub returns : goal.returns
returns c = told _ _ c.same_item_parts.ensures (same_item-tells (item_of c.args.a.now) (item_of c.args.b.now))
