use Rattle.std.proofs.Common.{◌<◌, subst}
use Rattle.session.proofs.Pens.{begins}
use Rattle.session.proofs.pen.Pen.new.Goals as goal

pub invariant_of-result : goal.invariant_of-result
invariant_of-result g c = (
  c.requires.names.0,
  c.requires.names.1,
  begins g.S.Start.begun (g.O.Outlet.safe c.args.ends.output.now) c.args.ends.pass.now c.wait_past.new.pass c.wait_past.result (g.O.Sink.written c.args.ends.output.now) (g.O.Sink.faults_of c.args.ends.output.now) c.requires.start c.wait_past.ensures.pass (subst (λ h. h.place < c.wait_past.result) c.requires.hold c.wait_past.ensures.past),
)
