use Rattle.std.proofs.Common.{◌∙◌, sym}
use Rattle.campaign_law.specs.Law.{world_of}
use Rattle.script_play.proofs.Fronts.{wrote_nothing}
use Rattle.script_play.proofs.AfterEntry.{nothing_since, prefix_none}
use Rattle.script_play.proofs.LineRuns.{line_played, bad_line_played, too_many_played}
use Rattle.script_play.proofs.run.play_line.Goals as goal

pub returns-then-number-gt-LINE_LIMIT-clause-entered : goal.returns-then-number-gt-LINE_LIMIT-clause-entered
returns-then-number-gt-LINE_LIMIT-clause-entered g c = too_many_played (world_of c.args.campaign.now) c.args.number c.args.line _ c.if-number-gt-LINE_LIMIT.true (nothing_since c.args.campaign.now)

pub returns-in-Ok-Some-clause-entered : goal.returns-in-Ok-Some-clause-entered
returns-in-Ok-Some-clause-entered g c =
    line_played c.enter_with_takens.result (world_of c.args.campaign.now) c.args.number c.args.line c.in-Ok-Some.entry _ c.if-number-gt-LINE_LIMIT.false c.requires.short
    (sym c.in-Ok-Some.ensures ∙ c.in-Ok-Some.field-0-is) c.enter_with_takens.ensures.entered c.enter_with_takens.ensures.stopped c.enter_with_takens.ensures.stop

pub returns-in-Ok-None-clause-entered : goal.returns-in-Ok-None-clause-entered
returns-in-Ok-None-clause-entered g c =
    bad_line_played (world_of c.args.campaign.now) c.args.number c.args.line _ c.if-number-gt-LINE_LIMIT.false c.requires.short
    (sym c.in-Ok-None.field-0-is ∙ c.in-Ok-None.ensures) (nothing_since c.args.campaign.now)

pub returns-in-Err-clause-entered : goal.returns-in-Err-clause-entered
returns-in-Err-clause-entered g c = prefix_none _ _ (nothing_since c.args.campaign.now)

pub returns-then-number-gt-LINE_LIMIT-clause-written : goal.returns-then-number-gt-LINE_LIMIT-clause-written
returns-then-number-gt-LINE_LIMIT-clause-written g c = wrote_nothing _ _ _ _ (nothing_since c.args.campaign.now)

pub returns-in-Ok-None-clause-written : goal.returns-in-Ok-None-clause-written
returns-in-Ok-None-clause-written g c = wrote_nothing _ _ _ _ (nothing_since c.args.campaign.now)

pub returns-in-Err-clause-written : goal.returns-in-Err-clause-written
returns-in-Err-clause-written g c = wrote_nothing _ _ _ _ (nothing_since c.args.campaign.now)
