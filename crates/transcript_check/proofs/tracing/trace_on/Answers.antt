use Rattle.std.proofs.Common.{◌∙◌}
use Rattle.transcript_check.proofs.Begun.{begins}
use Rattle.transcript_check.proofs.Traced.{traced_is}
use Rattle.transcript_check.proofs.tracing.trace_on.Goals as goal

pub play-requires-clause-follows : goal.play-requires-clause-follows
play-requires-clause-follows g c = begins c.args.campaign.now c.new-follower.result c.requires.fresh c.requires.history c.new-follower.ensures.items

pub returns-in-Ok-play-clause-traced : goal.returns-in-Ok-play-clause-traced
returns-in-Ok-play-clause-traced g c text opens fits tables seats =
    traced_is text c.args.script.now c.args.seat c.args.campaign.now c.play.new.campaign c.in-Ok.opening c.play.new.self
    opens c.requires.fresh fits tables seats
    c.in-Ok.ensures c.play.ensures.origin c.in-Ok-play.ensures.played c.in-Ok-play.ensures.follows (c.play.ensures.seat ∙ c.new-follower.ensures.seat)
