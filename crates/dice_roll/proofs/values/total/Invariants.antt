use Rattle.std.proofs.Common.{◌≡◌, ◌≤◌, ◌*◌, take, sum}
use Rattle.dice_roll.proofs.values.total.Given as goal

abbrev pub invariant-loop-value : goal.invariant-loop-value
invariant-loop-value l = (l.total ≡ sum (take l.value-index l.values)) × (l.total ≤ 1000 * l.value-index)
