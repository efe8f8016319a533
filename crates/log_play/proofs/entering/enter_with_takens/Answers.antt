use Rattle.std.proofs.Common.{subst}
use Rattle.campaign_law.specs.Law.{world_of}
use Rattle.campaign_law.specs.World.{step}
use Rattle.script_play.specs.declared.run.Played.{Played}
use Rattle.script_play.specs.Script.{takens}
use Rattle.script_play.specs.Played.{HasWritten, entries_since}
use Rattle.script_play.proofs.Fronts.{prefix_before}
use Rattle.script_play.proofs.LineRuns.{all_entered, part_entered, none_waits, takens_written}
use Rattle.log_play.specs.Logged.{logged}
use Rattle.log_play.proofs.Stops.{result_as, same_as, ok_as, err_as, on_ok, on_err, all_cuts, no_write_fault_of}
use Rattle.log_play.proofs.KeptLemmas.{still_disks}
use Rattle.log_play.proofs.Sizes.{IsShort, takens_short}
use Rattle.log_play.proofs.LineEntries.{keeps_with_takens, keeps_before_takens, room_with_takens, room_before_takens}
use Rattle.std.specs.List.{AllByRecursion}
use Rattle.std.proofs.Common.{sym}
use Rattle.log_play.proofs.entering.enter_with_takens.Goals as goal

pub log_all-requires-clause-short : goal.log_all-requires-clause-short
log_all-requires-clause-short g c = subst (AllByRecursion IsShort) (sym c.in-Ok.ensures.due) (takens_short (world_of c.enter.new.campaign))

pub log_all-requires-clause-journal : goal.log_all-requires-clause-journal
log_all-requires-clause-journal g c = λ told.
    still_disks g.K.Disk.seen g.K.Disk.may_leave g.K.Disk.moment g.K.Disk.left_since _ _ c.args.disk.now c.enter.new.disk c.args.journal.now c.enter.new.journal (c.requires.journal told) (c.in-Ok.ensures.log told)

pub returns-in-Ok-clause-entered : goal.returns-in-Ok-clause-entered
returns-in-Ok-clause-entered g c =
    on_ok c.log_all.result (all_entered c.args.campaign.now c.enter.new.campaign c.log_all.new.campaign c.args.entry c.in-Ok.due.items c.in-Ok.ensures.campaign c.log_all.ensures.campaign c.in-Ok.ensures.entered c.in-Ok.ensures.due) c.log_all.ensures.entered

pub returns-in-Ok-clause-stopped : goal.returns-in-Ok-clause-stopped
returns-in-Ok-clause-stopped g c =
    on_err c.log_all.result (part_entered c.args.campaign.now c.enter.new.campaign c.log_all.new.campaign c.args.entry c.in-Ok.due.items c.in-Ok.ensures.campaign c.log_all.ensures.campaign c.in-Ok.ensures.entered c.in-Ok.ensures.due) c.log_all.ensures.stopped

pub returns-in-Ok-clause-written : goal.returns-in-Ok-clause-written
returns-in-Ok-clause-written g c =
    let r = c.log_all.result in
    subst (λ (p : Played). HasWritten p (world_of c.args.campaign.now) (entries_since c.args.campaign.now c.log_all.new.campaign) (g.O.Sink.written c.args.out.now) (g.O.Sink.written c.enter.new.out)) (same_as r)
    (takens_written (result_as r) c.args.campaign.now c.enter.new.campaign c.log_all.new.campaign c.args.entry c.in-Ok.due.items _ _ c.in-Ok.ensures.campaign c.log_all.ensures.campaign c.in-Ok.ensures.entered c.in-Ok.ensures.due (ok_as r _ c.log_all.ensures.entered) (err_as r _ c.log_all.ensures.stopped) c.in-Ok.ensures.written)

pub returns-in-Ok-clause-waits : goal.returns-in-Ok-clause-waits
returns-in-Ok-clause-waits g c =
    on_ok c.log_all.result (none_waits c.args.campaign.now c.enter.new.campaign c.log_all.new.campaign c.in-Ok.due.items c.requires.opening c.in-Ok.ensures.campaign c.log_all.ensures.campaign c.in-Ok.ensures.due) c.log_all.ensures.entered

pub returns-in-Ok-clause-log : goal.returns-in-Ok-clause-log
returns-in-Ok-clause-log g c = λ told.
    keeps_with_takens g.K.Disk.seen g.K.Disk.may_leave g.K.Disk.moment g.K.Disk.left_since (logged c.log_all.result)
    c.args.campaign.now c.enter.new.campaign c.log_all.new.campaign c.args.entry c.in-Ok.due.items c.args.disk.now c.enter.new.disk c.log_all.new.disk c.args.journal.now c.enter.new.journal c.log_all.new.journal
    c.in-Ok.ensures.campaign c.log_all.ensures.campaign c.in-Ok.ensures.entered c.in-Ok.ensures.due (c.in-Ok.ensures.log told) (c.log_all.ensures.log told)

pub returns-in-Ok-clause-stop : goal.returns-in-Ok-clause-stop
returns-in-Ok-clause-stop g c = all_cuts c.log_all.result c.log_all.ensures.stop

pub returns-in-Ok-clause-full : goal.returns-in-Ok-clause-full
returns-in-Ok-clause-full g c = λ full.
    room_with_takens c.log_all.new.journal c.args.campaign.now c.enter.new.campaign c.log_all.new.campaign c.args.entry c.in-Ok.due.items
    c.in-Ok.ensures.campaign c.log_all.ensures.campaign c.in-Ok.ensures.entered c.in-Ok.ensures.due (c.log_all.ensures.full full)

pub returns-in-Ok-clause-write_fault : goal.returns-in-Ok-clause-write_fault
returns-in-Ok-clause-write_fault g c = λ e. absurd (no_write_fault_of c.log_all.result c.log_all.ensures.stop e)

pub returns-in-Err-clause-stopped : goal.returns-in-Err-clause-stopped
returns-in-Err-clause-stopped g c = prefix_before (takens (step (world_of c.args.campaign.now) c.args.entry)) c.in-Err.ensures.stopped

pub returns-in-Err-clause-log : goal.returns-in-Err-clause-log
returns-in-Err-clause-log g c = λ told.
    keeps_before_takens g.K.Disk.seen g.K.Disk.may_leave g.K.Disk.moment g.K.Disk.left_since c.in-Err.stop
    (entries_since c.args.campaign.now c.enter.new.campaign) (world_of c.args.campaign.now) c.args.entry c.args.disk.now c.enter.new.disk c.args.journal.now c.enter.new.journal (c.in-Err.ensures.log told)

pub returns-in-Err-clause-full : goal.returns-in-Err-clause-full
returns-in-Err-clause-full g c = λ full.
    room_before_takens c.enter.new.journal (entries_since c.args.campaign.now c.enter.new.campaign) (world_of c.args.campaign.now) c.args.entry (c.in-Err.ensures.full full)
