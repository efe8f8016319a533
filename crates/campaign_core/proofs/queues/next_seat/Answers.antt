use Rattle.std.proofs.Common.{cond, None}
use Rattle.campaign_core.specs.Places.{posted}
use Rattle.campaign_core.proofs.Idle.{idle_post}
use Rattle.campaign_core.proofs.queues.next_seat.Goals as goal

pub returns-then-is_idle-clause-post : goal.returns-then-is_idle-clause-post
returns-then-is_idle-clause-post c =
    idle_post c.args.seat c.args.acts c.args.glances.now.reach c.args.outcome.now (cond c.args.acts c.args.book.now None) c.args.glances.now.before.now c.args.glances.now.after.now (posted c.args.post.now)
    c.requires.sound c.requires.still (c.is_idle.ensures.acts c.if-is_idle.true) (c.is_idle.ensures.reach c.if-is_idle.true) (c.is_idle.ensures.silent c.if-is_idle.true)
