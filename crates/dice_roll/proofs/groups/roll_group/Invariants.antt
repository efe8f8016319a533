use Rattle.std.proofs.Common.{◌-◌}
use Rattle.dice_roll.proofs.Draws.{Rolling}
use Rattle.dice_roll.proofs.groups.roll_group.Given as goal

abbrev pub invariant-loop-die : goal.invariant-loop-die
invariant-loop-die l = Rolling l.fn.stream l.stream l.group l.group.count (l.group.count - l._die) l.fn.values.items l.values.items
