use Rattle.line_io.specs.Counts.{CountRose}
use Rattle.tabletop.proofs.EndsLemmas.{count_after}
use Rattle.tabletop.proofs.FetchLemmas.{compared_files}
use Rattle.tabletop.proofs.comparing.compare_files.Goals as goal

pub returns-in-Ok-clause-ends : goal.returns-in-Ok-clause-ends
returns-in-Ok-clause-ends g c =
    let first = g.D.Desk.faults_of c.args.desk.now in
    let then = g.D.Desk.faults_of c.fetch_pair.new.desk in
    let last = g.D.Desk.faults_of c.compare_with_files.new.desk in
    compared_files (CountRose then last) (CountRose first last) (count_after first then last c.fetch_pair.ensures.count) c.compare_with_files.result _ _ _ _ _ _ _ _ c.args.seat _ _
    c.in-Ok.ensures.fetched.0 c.in-Ok.ensures.fetched.1 (c.fetch_pair.ensures.texts c.args.file2.now) (c.fetch_pair.ensures.texts c.args.script2.now) c.compare_with_files.ensures.ends
