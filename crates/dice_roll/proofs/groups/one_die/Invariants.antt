use Rattle.std.proofs.Common.{◌-◌}
use Rattle.dice_roll.proofs.Draws.{Exploding}
use Rattle.dice_roll.proofs.groups.one_die.Given as goal

abbrev pub invariant-loop-turn : goal.invariant-loop-turn
invariant-loop-turn l = Exploding l.fn.stream l.stream l.group (l.most - l._turn) l.last l.fn.values.items l.values.items
