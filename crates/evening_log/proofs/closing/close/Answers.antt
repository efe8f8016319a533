use Rattle.evening_log.proofs.Keeping.{closes_now, closes_since, closes_front}
use Rattle.evening_log.proofs.closing.close.Goals as goal

pub returns-clause-front : goal.returns-clause-front
returns-clause-front g c = closes_front c.close-keeper.result c.args.pass.front c.into_parts-kept.result.0 c.meet.result.front c.close-keeper.ensures.front c.into_parts-kept.ensures.pass c.meet.ensures.right

pub returns-clause-now : goal.returns-clause-now
returns-clause-now g c = closes_now c.close-keeper.result c.into_parts-kept.result.0 c.into_parts-kept.result.1 c.args.log.origin c.args.pass.heard c.meet.result.front c.into_parts-kept.ensures.kept c.close-keeper.ensures.origin c.into_parts-kept.ensures.pass c.into_parts-kept.ensures.disk c.close-keeper.ensures.heard c.meet.ensures.right

pub returns-clause-since : goal.returns-clause-since
returns-clause-since g c = closes_since c.close-keeper.result c.into_parts-kept.result.0 c.into_parts-kept.result.1 c.args.log.origin c.meet.result.front c.into_parts-kept.ensures.kept c.close-keeper.ensures.origin c.into_parts-kept.ensures.pass c.into_parts-kept.ensures.disk c.meet.ensures.right
