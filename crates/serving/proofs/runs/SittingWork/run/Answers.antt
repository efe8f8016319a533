use Rattle.std.proofs.Common.{rules, subst}
use Rattle.std.specs.Arc.{arc_value}
use Rattle.session.specs.Safely.{SaysSafely}
use Rattle.session.proofs.SafeSessions.{says_still}
use Rattle.serving.proofs.runs.SittingWork.run.Goals as goal

pub returns : goal.returns
returns g c =
    let sitting = c.args.self in
    let written = g.O.Sink.written in
    let safe = g.O.Outlet.safe in
    let served = c.serve-sat in
    let closed = c.close_output in
    record {
      run = search rules;
      says = says_still (safe served.new.output) (safe closed.new.output) (arc_value sitting.hall).origin sitting.reader served.result.reader sitting.writer served.result.writer
          (written sitting.output) (written served.new.output) (written closed.new.output) closed.ensures.still closed.ensures.written
          (subst (λ h. SaysSafely (safe served.new.output) h.origin sitting.reader served.result.reader sitting.writer served.result.writer (written sitting.output) (written served.new.output)) c.deref.ensures served.ensures.safe);
    }
