use Rattle.tabletop.proofs.EndsLemmas.{told_usage, read_fault_of, write_fault_of, count_before}
use Rattle.tabletop.proofs.ServeLemmas.{run_served, usage_if, no_service_only, door_fault_of, serve_completes}
use Rattle.tabletop.proofs.serve.tabletop_serve.Goals as goal

pub returns-clause-ends : goal.returns-clause-ends
returns-clause-ends g c =
    run_served _ _ _ _ _ c.status_of.result c.job-ended.result c.print_last_line.result _ _ _ _ c.status_of.ensures c.print_last_line.ensures.ended c.job-ended.ensures.ends c.print_last_line.ensures.count c.print_last_line.ensures.line

pub returns-clause-usage : goal.returns-clause-usage
returns-clause-usage g c =
    let h = returns-clause-ends g c in
    usage_if _ _ _ _ _ _ _ _ h

pub returns-clause-no_service : goal.returns-clause-no_service
returns-clause-no_service g c =
    let h = returns-clause-ends g c in
    no_service_only _ _ _ _ _ _ _ _ h

pub returns-clause-no_form : goal.returns-clause-no_form
returns-clause-no_form g c = λ none. told_usage c.status_of.result c.job-ended.result c.print_last_line.result c.status_of.ensures c.print_last_line.ensures.ended (c.job-ended.ensures.no_form none)

pub returns-clause-read_fault : goal.returns-clause-read_fault
returns-clause-read_fault g c = λ e. c.job-ended.ensures.read_fault (read_fault_of c.status_of.result c.job-ended.result c.print_last_line.result c.status_of.ensures c.print_last_line.ensures.ended e)

pub returns-clause-write_fault : goal.returns-clause-write_fault
returns-clause-write_fault g c = λ e. count_before _ _ _ c.print_last_line.ensures.count (c.job-ended.ensures.write_fault (write_fault_of c.status_of.result c.job-ended.result c.print_last_line.result c.status_of.ensures c.print_last_line.ensures.ended e))

pub returns-clause-door_fault : goal.returns-clause-door_fault
returns-clause-door_fault g c = λ e. c.job-ended.ensures.door_fault (door_fault_of c.status_of.result c.job-ended.result c.print_last_line.result c.status_of.ensures c.print_last_line.ensures.ended e)

pub returns-clause-complete : goal.returns-clause-complete
returns-clause-complete g c =
    let h = returns-clause-ends g c in
    λ service campaign origin asked told small opens no_desk no_out no_door.
    serve_completes _ _ _ _ c.status_of.result _ service (g.D.Desk.text_of c.args.desk.now) _ campaign origin h asked told small opens
    (λ e. no_desk (c.job-ended.ensures.read_fault (read_fault_of c.status_of.result c.job-ended.result c.print_last_line.result c.status_of.ensures c.print_last_line.ensures.ended e)))
    (λ e. no_out (count_before _ _ _ c.print_last_line.ensures.count (c.job-ended.ensures.write_fault (write_fault_of c.status_of.result c.job-ended.result c.print_last_line.result c.status_of.ensures c.print_last_line.ensures.ended e))))
    (λ e. no_door (c.job-ended.ensures.door_fault (door_fault_of c.status_of.result c.job-ended.result c.print_last_line.result c.status_of.ensures c.print_last_line.ensures.ended e)))
