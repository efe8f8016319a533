use Rattle.campaign_law.specs.Law.{world_of}
use Rattle.script_play.specs.Script.{takens}
use Rattle.campaign_law.specs.World.{step}
use Rattle.script_play.proofs.Fronts.{prefix_before}
use Rattle.script_play.proofs.LineRuns.{on_ok, on_err, all_entered, part_entered, none_waits, takens_written}
use Rattle.script_play.proofs.Counts.{takens_counted}
use Rattle.script_play.proofs.run.enter_with_takens.Goals as goal

pub returns-in-Ok-clause-entered : goal.returns-in-Ok-clause-entered
returns-in-Ok-clause-entered g c =
    on_ok c.enter_all.result (all_entered c.args.campaign.now c.enter.new.campaign c.enter_all.new.campaign c.args.entry c.in-Ok.due.items c.in-Ok.ensures.campaign c.enter_all.ensures.campaign c.in-Ok.ensures.entered c.in-Ok.ensures.due) c.enter_all.ensures.entered

pub returns-in-Ok-clause-stopped : goal.returns-in-Ok-clause-stopped
returns-in-Ok-clause-stopped g c =
    on_err c.enter_all.result (part_entered c.args.campaign.now c.enter.new.campaign c.enter_all.new.campaign c.args.entry c.in-Ok.due.items c.in-Ok.ensures.campaign c.enter_all.ensures.campaign c.in-Ok.ensures.entered c.in-Ok.ensures.due) c.enter_all.ensures.stopped

pub returns-in-Ok-clause-written : goal.returns-in-Ok-clause-written
returns-in-Ok-clause-written g c =
    takens_written c.enter_all.result c.args.campaign.now c.enter.new.campaign c.enter_all.new.campaign c.args.entry c.in-Ok.due.items _ _ c.in-Ok.ensures.campaign c.enter_all.ensures.campaign c.in-Ok.ensures.entered c.in-Ok.ensures.due c.enter_all.ensures.entered c.enter_all.ensures.stopped c.in-Ok.ensures.written

pub returns-in-Ok-clause-waits : goal.returns-in-Ok-clause-waits
returns-in-Ok-clause-waits g c =
    on_ok c.enter_all.result (none_waits c.args.campaign.now c.enter.new.campaign c.enter_all.new.campaign c.in-Ok.due.items c.requires.opening c.in-Ok.ensures.campaign c.enter_all.ensures.campaign c.in-Ok.ensures.due) c.enter_all.ensures.entered

pub returns-in-Err-clause-stopped : goal.returns-in-Err-clause-stopped
returns-in-Err-clause-stopped g c = prefix_before (takens (step (world_of c.args.campaign.now) c.args.entry)) c.in-Err.ensures.stopped

pub returns-in-Ok-clause-counted : goal.returns-in-Ok-clause-counted
returns-in-Ok-clause-counted g c =
    takens_counted c.enter_all.result c.args.tally.now c.enter.new.tally c.args.campaign.now c.enter.new.campaign c.enter_all.new.campaign c.args.entry c.in-Ok.due.items c.in-Ok.ensures.campaign c.enter_all.ensures.campaign c.in-Ok.ensures.entered c.in-Ok.ensures.counted c.in-Ok.ensures.due c.enter_all.ensures.entered c.enter_all.ensures.looks
