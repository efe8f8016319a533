use Rattle.std.proofs.Common.{◌≢◌, ◌-◌, ◌+◌, ◌≡◌, arith}
use Rattle.dice_roll.proofs.Draws.{rolling_first, rolling_next, rolling_end}
use Rattle.dice_roll.proofs.groups.roll_group.Goals as goal

pub loop-die-init : goal.loop-die-init
loop-die-init c = rolling_first c.args.stream.now c.args.group.now c.args.group.now.count (c.args.group.now.count - 0) c.args.values.now.items (omega arith)

pub loop-die-preserved : goal.loop-die-preserved
loop-die-preserved c =
    let ne : c.args.group.now.count - c.loop-die._die ≢ 0 = omega arith in
    let left : c.args.group.now.count - c.loop-die._die - 1 ≡ c.args.group.now.count - (c.loop-die._die + 1) = omega arith in
    rw (← left) (rolling_next c.args.stream.now c.loop-die.stream c.one_die.new.stream c.args.group.now c.args.group.now.count (c.args.group.now.count - c.loop-die._die) c.args.values.now.items c.loop-die.values.items c.one_die.new.values.items c.loop-die.invariant ne c.in_ok-one_die.ensures.stream c.in_ok-one_die.ensures.values c.in_ok-one_die.ensures.small)

pub returns-clause-values : goal.returns-clause-values
returns-clause-values c = (rolling_end c.args.stream.now c.loop-die.stream c.args.group.now c.args.group.now.count (c.args.group.now.count - c.loop-die._die) c.args.values.now.items c.loop-die.values.items c.loop-die.invariant (omega arith)).0

pub returns-clause-stream : goal.returns-clause-stream
returns-clause-stream c = (rolling_end c.args.stream.now c.loop-die.stream c.args.group.now c.args.group.now.count (c.args.group.now.count - c.loop-die._die) c.args.values.now.items c.loop-die.values.items c.loop-die.invariant (omega arith)).1

pub returns-clause-small : goal.returns-clause-small
returns-clause-small c = let k = c.loop-die.invariant in k.small
