use Rattle.dice_roll.proofs.Order.{ascending_law}
use Rattle.dice_roll.proofs.values.ascending_order.Goals as goal

pub returns : goal.returns
returns c = ascending_law
