use Rattle.std.proofs.Common.{◌∙◌}
use Rattle.evening_log.proofs.Keeping.{put_ok, put_err}
use Rattle.evening_log.proofs.keeper.put.Goals as goal

pub returns-in-Ok-clause-kept : goal.returns-in-Ok-clause-kept
returns-in-Ok-clause-kept g c = λ told.
    put_ok g.K.Disk.seen g.K.Disk.may_leave g.K.Disk.moment g.K.Disk.left_since g.met.K.Disk.counts_now c.args.group c.deref.result.now c.args.disk.now c.append_all.new.disk c.args.journal.now c.append_all.new.journal c.args.stuck.now
    (c.deref.ensures.value ∙ c.group.view_is) c.requires.free (c.in-Ok.ensures.acknowledged told) (c.in-Ok.ensures.any_moment told)

pub returns-in-Err-clause-kept : goal.returns-in-Err-clause-kept
returns-in-Err-clause-kept g c = λ told.
    put_err g.K.Disk.seen g.K.Disk.may_leave g.K.Disk.moment g.K.Disk.left_since g.met.K.Disk.counts_now c.args.group c.deref.result.now c.args.disk.now c.append_all.new.disk c.args.journal.now c.append_all.new.journal c.is_disk_fault.result c.in-Err.fault
    (c.deref.ensures.value ∙ c.group.view_is) c.is_disk_fault.ensures (c.in-Err.ensures.any_moment told) c.in-Err.ensures.unchanged c.in-Err.ensures.unchanged_memory c.in-Err.ensures.end c.in-Err.ensures.fault
