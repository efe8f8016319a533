use Rattle.std.proofs.Common.{◌∙◌}
use Rattle.dice_roll.proofs.Draws.{again_yes}
use Rattle.dice_roll.proofs.groups.first.Goals as goal

pub returns-in-Some-clause-value : goal.returns-in-Some-clause-value
returns-in-Some-clause-value c =
    let k = again_yes c.args.stream.now c.args.group.now c.in-Some.limit c.die-value.result c.in-Some.is c.die-value.ensures.value c.if-value-limit.true in
    c.die.ensures.value ∙ rw c.die-value.ensures.stream k.0

pub returns-in-Some-clause-stream : goal.returns-in-Some-clause-stream
returns-in-Some-clause-stream c =
    let k = again_yes c.args.stream.now c.args.group.now c.in-Some.limit c.die-value.result c.in-Some.is c.die-value.ensures.value c.if-value-limit.true in
    c.die.ensures.stream ∙ rw c.die-value.ensures.stream k.1
