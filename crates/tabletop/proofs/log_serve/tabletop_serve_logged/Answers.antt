use Rattle.tabletop.proofs.EndsLemmas.{count_before}
use Rattle.tabletop.proofs.LoggedEnds.{log_read_fault, log_write_fault}
use Rattle.tabletop.proofs.Evenings.{evening_ended, usage_ended, two_told, usage_two}
use Rattle.tabletop.proofs.log_serve.tabletop_serve_logged.Goals as goal

pub returns-clause-ends : goal.returns-clause-ends
returns-clause-ends g c =
    evening_ended _ _ g.K.Disk.tells g.K.Disk.seen g.K.Disk.may_leave g.K.Disk.moment g.K.Disk.left_since _ c.log_status.result c.job-ended.result.0 c.print_evening_line.result _ _ _ _ _ _ _ _ _ _
    c.log_status.ensures c.print_evening_line.ensures.ended c.job-ended.ensures.ends c.job-ended.ensures.out_count c.print_evening_line.ensures.line

pub returns-clause-usage : goal.returns-clause-usage
returns-clause-usage g c = (
  λ two. c.job-ended.ensures.usage (two_told c.log_status.result c.job-ended.result.0 c.print_evening_line.result c.log_status.ensures c.print_evening_line.ensures.ended two),
  λ none. usage_two c.log_status.result c.job-ended.result.0 c.print_evening_line.result c.log_status.ensures c.print_evening_line.ensures.ended
      (usage_ended _ _ g.K.Disk.tells g.K.Disk.seen g.K.Disk.may_leave g.K.Disk.moment g.K.Disk.left_since _ c.job-ended.result.0 _ _ _ _ _ _ none c.job-ended.ensures.ends),
)

pub returns-clause-read_fault : goal.returns-clause-read_fault
returns-clause-read_fault g c = λ e. c.job-ended.ensures.read_fault (log_read_fault c.log_status.result c.job-ended.result.0 c.print_evening_line.result c.log_status.ensures c.print_evening_line.ensures.ended e)

pub returns-clause-write_fault : goal.returns-clause-write_fault
returns-clause-write_fault g c = λ e. count_before _ _ _ c.print_evening_line.ensures.count (c.job-ended.ensures.write_fault (log_write_fault c.log_status.result c.job-ended.result.0 c.print_evening_line.result c.log_status.ensures c.print_evening_line.ensures.ended e))
