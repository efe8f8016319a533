use Rattle.std.proofs.Common.{◌≢◌, ◌-◌, ◌+◌, ◌≡◌, arith, inl, inr, ◌∙◌}
use Rattle.dice_roll.proofs.Draws.{exploding_first, exploding_next, exploding_end}
use Rattle.dice_roll.proofs.groups.one_die.Goals as goal

pub loop-turn-init : goal.loop-turn-init
loop-turn-init c = exploding_first c.args.stream.now c.first-last.new.stream c.args.group.now c.first-last.result (c.most_further_of-most.result - 0) c.args.values.now.items c.push.new.self.items c.first-last.ensures.stream c.first-last.ensures.value c.first-last.ensures.range (let all : c.most_further_of-most.result - 0 ≡ c.most_further_of-most.result = omega arith in all ∙ c.most_further_of-most.ensures) c.in_ok-push.ensures.items

pub loop-turn-preserved : goal.loop-turn-preserved
loop-turn-preserved c =
    let ne : c.most_further_of-most.result - c.loop-turn._turn ≢ 0 = omega arith in
    let left : c.most_further_of-most.result - c.loop-turn._turn - 1 ≡ c.most_further_of-most.result - (c.loop-turn._turn + 1) = omega arith in
    rw (← left) (exploding_next c.args.stream.now c.loop-turn.stream c.die-last.new.self c.args.group.now (c.most_further_of-most.result - c.loop-turn._turn) c.loop-turn.last c.die-last.result c.args.values.now.items c.loop-turn.values.items c.push-in-loop-turn.new.self.items c.loop-turn.invariant ne c.if-last-group.false c.die-last.ensures.value (omega (arith, c.die-last.ensures.most)) c.die-last.ensures.stream c.in_ok-push-2.ensures.items)

pub returns-after-loop-turn-clause-values : goal.returns-after-loop-turn-clause-values
returns-after-loop-turn-clause-values c = (exploding_end c.args.stream.now c.loop-turn.stream c.args.group.now (c.most_further_of-most.result - c.loop-turn._turn) c.loop-turn.last c.args.values.now.items c.loop-turn.values.items c.loop-turn.invariant (inl (omega arith))).0

pub returns-after-loop-turn-clause-stream : goal.returns-after-loop-turn-clause-stream
returns-after-loop-turn-clause-stream c = (exploding_end c.args.stream.now c.loop-turn.stream c.args.group.now (c.most_further_of-most.result - c.loop-turn._turn) c.loop-turn.last c.args.values.now.items c.loop-turn.values.items c.loop-turn.invariant (inl (omega arith))).1

pub returns-after-loop-turn-clause-small : goal.returns-after-loop-turn-clause-small
returns-after-loop-turn-clause-small c = let k = c.loop-turn.invariant in k.small

pub returns-then-last-group-clause-values : goal.returns-then-last-group-clause-values
returns-then-last-group-clause-values c = (exploding_end c.args.stream.now c.loop-turn.stream c.args.group.now (c.most_further_of-most.result - c.loop-turn._turn) c.loop-turn.last c.args.values.now.items c.loop-turn.values.items c.loop-turn.invariant (inr c.if-last-group.true)).0

pub returns-then-last-group-clause-stream : goal.returns-then-last-group-clause-stream
returns-then-last-group-clause-stream c = (exploding_end c.args.stream.now c.loop-turn.stream c.args.group.now (c.most_further_of-most.result - c.loop-turn._turn) c.loop-turn.last c.args.values.now.items c.loop-turn.values.items c.loop-turn.invariant (inr c.if-last-group.true)).1

pub returns-then-last-group-clause-small : goal.returns-then-last-group-clause-small
returns-then-last-group-clause-small c = let k = c.loop-turn.invariant in k.small
