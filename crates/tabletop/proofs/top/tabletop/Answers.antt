use Rattle.std.proofs.Common.{inl, inr}
use Rattle.line_io.specs.Counts.{CountRose}
use Rattle.tabletop.proofs.EndsLemmas.{run_ended, usage_if, no_job_only, told_usage, read_fault_of, write_fault_of, count_before, play_completes, check_completes, drill_completes}
use Rattle.tabletop.proofs.AnsweredRuns.{verify_answers, compare_answers}
use Rattle.tabletop.proofs.top.tabletop.Goals as goal

pub returns-clause-ends : goal.returns-clause-ends
returns-clause-ends g c = run_ended _ _ c.status_of.result c.job-ended.result c.print_last_line.result _ _ _ _ _ _ _ _ _ _ c.status_of.ensures c.print_last_line.ensures.ended c.job-ended.ensures.ends c.job-ended.ensures.out_count c.print_last_line.ensures.line

pub returns-clause-usage : goal.returns-clause-usage
returns-clause-usage g c =
    let h = run_ended _ _ c.status_of.result c.job-ended.result c.print_last_line.result _ _ _ _ _ _ _ _ _ _ c.status_of.ensures c.print_last_line.ensures.ended c.job-ended.ensures.ends c.job-ended.ensures.out_count c.print_last_line.ensures.line in
    usage_if _ _ _ _ _ _ _ _ _ _ h

pub returns-clause-no_job : goal.returns-clause-no_job
returns-clause-no_job g c =
    let h = run_ended _ _ c.status_of.result c.job-ended.result c.print_last_line.result _ _ _ _ _ _ _ _ _ _ c.status_of.ensures c.print_last_line.ensures.ended c.job-ended.ensures.ends c.job-ended.ensures.out_count c.print_last_line.ensures.line in
    no_job_only _ _ _ _ _ _ _ _ _ _ h

pub returns-clause-no_form : goal.returns-clause-no_form
returns-clause-no_form g c = λ none. told_usage c.status_of.result c.job-ended.result c.print_last_line.result c.status_of.ensures c.print_last_line.ensures.ended (c.job-ended.ensures.no_form none)

pub returns-clause-read_fault : goal.returns-clause-read_fault
returns-clause-read_fault g c = λ e. c.job-ended.ensures.read_fault (read_fault_of c.status_of.result c.job-ended.result c.print_last_line.result c.status_of.ensures c.print_last_line.ensures.ended e)

pub returns-clause-write_fault : goal.returns-clause-write_fault
returns-clause-write_fault g c = λ e. count_before _ _ _ c.print_last_line.ensures.count (c.job-ended.ensures.write_fault (write_fault_of c.status_of.result c.job-ended.result c.print_last_line.result c.status_of.ensures c.print_last_line.ensures.ended e))

pub returns-clause-played : goal.returns-clause-played
returns-clause-played g c =
    let h = run_ended _ _ c.status_of.result c.job-ended.result c.print_last_line.result _ _ _ _ _ _ _ _ _ _ c.status_of.ensures c.print_last_line.ensures.ended c.job-ended.ensures.ends c.job-ended.ensures.out_count c.print_last_line.ensures.line in
    λ file campaign text end origin job told small is s d no_desk no_script no_out.
    play_completes c.status_of.result _ (g.D.Desk.text_of c.args.desk.now) _ _ _ _ _ _ _ file end campaign text origin h job told small is s d
    (λ e. elim (c.job-ended.ensures.read_fault (read_fault_of c.status_of.result c.job-ended.result c.print_last_line.result c.status_of.ensures c.print_last_line.ensures.ended e)) [ inl desk ↦ no_desk desk | inr script ↦ no_script script ])
    (λ e. no_out (count_before _ _ _ c.print_last_line.ensures.count (c.job-ended.ensures.write_fault (write_fault_of c.status_of.result c.job-ended.result c.print_last_line.result c.status_of.ensures c.print_last_line.ensures.ended e))))

pub returns-clause-checked : goal.returns-clause-checked
returns-clause-checked g c =
    let h = run_ended _ _ c.status_of.result c.job-ended.result c.print_last_line.result _ _ _ _ _ _ _ _ _ _ c.status_of.ensures c.print_last_line.ensures.ended c.job-ended.ensures.ends c.job-ended.ensures.out_count c.print_last_line.ensures.line in
    λ file campaign world job told small is no_desk no_script no_out.
    check_completes c.status_of.result _ (g.D.Desk.text_of c.args.desk.now) _ _ _ _ _ _ _ file campaign world h job told small is
    (λ e. elim (c.job-ended.ensures.read_fault (read_fault_of c.status_of.result c.job-ended.result c.print_last_line.result c.status_of.ensures c.print_last_line.ensures.ended e)) [ inl desk ↦ no_desk desk | inr script ↦ no_script script ])
    (λ e. no_out (count_before _ _ _ c.print_last_line.ensures.count (c.job-ended.ensures.write_fault (write_fault_of c.status_of.result c.job-ended.result c.print_last_line.result c.status_of.ensures c.print_last_line.ensures.ended e))))

pub returns-clause-drilled : goal.returns-clause-drilled
returns-clause-drilled g c =
    let h = run_ended _ _ c.status_of.result c.job-ended.result c.print_last_line.result _ _ _ _ _ _ _ _ _ _ c.status_of.ensures c.print_last_line.ensures.ended c.job-ended.ensures.ends c.job-ended.ensures.out_count c.print_last_line.ensures.line in
    λ number lines job no_out.
    drill_completes c.status_of.result _ (g.D.Desk.text_of c.args.desk.now) _ _ _ _ _ _ _ number lines h job
    (λ e. no_out (count_before _ _ _ c.print_last_line.ensures.count (c.job-ended.ensures.write_fault (write_fault_of c.status_of.result c.job-ended.result c.print_last_line.result c.status_of.ensures c.print_last_line.ensures.ended e))))

pub returns-clause-verified : goal.returns-clause-verified
returns-clause-verified g c =
    let desk = CountRose (g.D.Desk.faults_of c.args.desk.now) (g.D.Desk.faults_of c.job-ended.new.desk) in
    let source = CountRose (g.S.Source.faults_of c.args.script.now) (g.S.Source.faults_of c.job-ended.new.script) in
    let h = run_ended desk source c.status_of.result c.job-ended.result c.print_last_line.result _ _ _ _ _ _ _ _ _ _ c.status_of.ensures c.print_last_line.ensures.ended c.job-ended.ensures.ends c.job-ended.ensures.out_count c.print_last_line.ensures.line in
    λ file lines transcript told seat job at there no_desk no_out.
    verify_answers c.status_of.result _ (g.D.Desk.text_of c.args.desk.now) _ _ _ _ desk source _ h no_desk
    (λ e. no_out (count_before _ _ _ c.print_last_line.ensures.count (c.job-ended.ensures.write_fault (write_fault_of c.status_of.result c.job-ended.result c.print_last_line.result c.status_of.ensures c.print_last_line.ensures.ended e))))
    file lines transcript told seat job at there

pub returns-clause-compared : goal.returns-clause-compared
returns-clause-compared g c =
    let desk = CountRose (g.D.Desk.faults_of c.args.desk.now) (g.D.Desk.faults_of c.job-ended.new.desk) in
    let source = CountRose (g.S.Source.faults_of c.args.script.now) (g.S.Source.faults_of c.job-ended.new.script) in
    let h = run_ended desk source c.status_of.result c.job-ended.result c.print_last_line.result _ _ _ _ _ _ _ _ _ _ c.status_of.ensures c.print_last_line.ensures.ended c.job-ended.ensures.ends c.job-ended.ensures.out_count c.print_last_line.ensures.line in
    λ file lines file2 lines2 seat job at at2 no_desk no_out.
    compare_answers c.status_of.result _ (g.D.Desk.text_of c.args.desk.now) _ _ _ _ desk source _ h no_desk
    (λ e. no_out (count_before _ _ _ c.print_last_line.ensures.count (c.job-ended.ensures.write_fault (write_fault_of c.status_of.result c.job-ended.result c.print_last_line.result c.status_of.ensures c.print_last_line.ensures.ended e))))
    file lines file2 lines2 seat job at at2
