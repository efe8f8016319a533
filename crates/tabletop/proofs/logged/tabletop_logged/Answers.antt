use Rattle.std.proofs.Common.{inl, inr}
use Rattle.tabletop.proofs.EndsLemmas.{count_before}
use Rattle.tabletop.proofs.LoggedEnds.{log_run_ended, log_read_fault, log_write_fault, log_disk_fault, usage_only, usage_is, bad_completes, other_completes, log_play_completes}
use Rattle.tabletop.proofs.logged.tabletop_logged.Goals as goal

pub returns-clause-ends : goal.returns-clause-ends
returns-clause-ends g c =
    log_run_ended g.K.Disk.seen g.K.Disk.may_leave g.K.Disk.moment g.K.Disk.left_since g.K.Disk.tells _ c.log_status.result c.logged_job-ended.result c.print_log_line.result _ _ _ _ _ _ _ _ _ _ _ _
    c.log_status.ensures c.print_log_line.ensures.ended c.logged_job-ended.ensures.ends c.logged_job-ended.ensures.out_count c.print_log_line.ensures.line

pub returns-clause-usage : goal.returns-clause-usage
returns-clause-usage g c =
    let h = returns-clause-ends g c in (
      usage_only g.K.Disk.seen g.K.Disk.may_leave g.K.Disk.moment g.K.Disk.left_since _ _ _ _ _ _ _ _ _ _ _ _ h,
      usage_is g.K.Disk.seen g.K.Disk.may_leave g.K.Disk.moment g.K.Disk.left_since _ _ _ _ _ _ _ _ _ _ _ _ h,
    )

pub returns-clause-read_fault : goal.returns-clause-read_fault
returns-clause-read_fault g c = λ e. c.logged_job-ended.ensures.read_fault (log_read_fault c.log_status.result c.logged_job-ended.result c.print_log_line.result c.log_status.ensures c.print_log_line.ensures.ended e)

pub returns-clause-write_fault : goal.returns-clause-write_fault
returns-clause-write_fault g c = λ e. count_before _ _ _ c.print_log_line.ensures.count (c.logged_job-ended.ensures.write_fault (log_write_fault c.log_status.result c.logged_job-ended.result c.print_log_line.result c.log_status.ensures c.print_log_line.ensures.ended e))

pub returns-clause-disk_fault : goal.returns-clause-disk_fault
returns-clause-disk_fault g c = λ e. c.logged_job-ended.ensures.disk_fault (log_disk_fault c.log_status.result c.logged_job-ended.result c.print_log_line.result c.log_status.ensures c.print_log_line.ensures.ended e)

pub returns-clause-bad_log : goal.returns-clause-bad_log
returns-clause-bad_log g c =
    λ campaign origin place asked told there bad no_desk no_disk.
    bad_completes g.K.Disk.seen g.K.Disk.may_leave g.K.Disk.moment g.K.Disk.left_since g.K.Disk.tells _ _ c.log_status.result _ _ _ _ _ _ _ _ (returns-clause-ends g c) campaign origin asked told no_desk
    (λ e. no_disk (returns-clause-disk_fault g c e)) place there bad

pub returns-clause-other_log : goal.returns-clause-other_log
returns-clause-other_log g c =
    λ campaign origin asked told other no_desk no_disk.
    other_completes g.K.Disk.seen g.K.Disk.may_leave g.K.Disk.moment g.K.Disk.left_since g.K.Disk.tells _ _ c.log_status.result _ _ _ _ _ _ _ _ (returns-clause-ends g c) campaign origin asked told no_desk
    (λ e. no_disk (returns-clause-disk_fault g c e)) other

pub returns-clause-played : goal.returns-clause-played
returns-clause-played g c =
    λ campaign all origin kept asked told found script ends room no_desk no_script no_out no_disk.
    log_play_completes g.K.Disk.seen g.K.Disk.may_leave g.K.Disk.moment g.K.Disk.left_since g.K.Disk.tells _ _ c.log_status.result _ _ _ _ _ _ _ _ (returns-clause-ends g c) campaign origin asked told no_desk
    (λ e. no_disk (returns-clause-disk_fault g c e)) all kept found script ends room
    (λ e. elim (returns-clause-read_fault g c e) [ inl desk ↦ no_desk desk | inr source ↦ no_script source ])
    (λ e. no_out (returns-clause-write_fault g c e))
