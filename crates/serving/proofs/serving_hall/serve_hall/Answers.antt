use Rattle.std.specs.Arc.{arc_value}
use Rattle.serving.specs.Runs.{IsSafeRun}
use Rattle.serving.proofs.Undisturbed.{told_alone}
use Rattle.serving.proofs.Servings.{served}
use Rattle.serving.proofs.serving_hall.serve_hall.Goals as goal

pub returns-clause-serves : goal.returns-clause-serves
returns-clause-serves g c =
    let taken = c.admit_all-pass in
    let gathered = c.gather_all-pass in
    let hall = arc_value c.args.hall.now in
    let safe = g.L.Out.Outlet.safe in
    let left = g.L.In.Source.left in
    let written = g.L.Out.Sink.written in
    let in_faults = g.L.In.Source.faults_of in
    let out_faults = g.L.Out.Sink.faults_of in
    let q = gathered.result.0 in
    let low = c.args.usher.now.count in
    let high = taken.new.usher.count in
    served g.P.Spawner.work_of hall (IsSafeRun safe left written in_faults out_faults) written taken.result.2 gathered.result.1 c.args.count taken.result.1.items c.args.pass taken.result.0 q low high
    _ _ _ _ _ _ _ _ c.served_by.result
    taken.ensures.takes gathered.ensures.gathered gathered.ensures.coming taken.ensures.ended gathered.ensures.started gathered.ensures.spawner_count c.served_by.ensures
    taken.ensures.own taken.ensures.new gathered.ensures.out_fault
    (λ fates. told_alone hall q.front safe left written in_faults out_faults fates low high)
