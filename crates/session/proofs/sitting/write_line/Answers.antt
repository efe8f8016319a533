use Rattle.session.proofs.RefusalLines.{line_part, line_whole}
use Rattle.session.proofs.SafeSessions.{safe_pieces}
use Rattle.session.proofs.sitting.write_line.Goals as goal

pub returns-in-Ok-clause-wrote : goal.returns-in-Ok-clause-wrote
returns-in-Ok-clause-wrote g c =
    line_whole c.args.line.now _ (g.O.Sink.written c.tell.new.self) _ (g.O.Sink.faults_of c.args.output.now) (g.O.Sink.faults_of c.tell.new.self) (g.O.Sink.faults_of c.end_line.new.output)
    (rw c.bytes.ensures at c.in-Ok.ensures.ok) c.tell.ensures.count c.end_line.ensures.wrote

pub returns-in-Err-clause-wrote : goal.returns-in-Err-clause-wrote
returns-in-Err-clause-wrote g c = let e = c.in-Err.ensures.err in line_part c.args.line.now e.count _ _ _ _ (rw c.bytes.ensures at e.written) c.in-Err.ensures.failed

pub returns-in-Ok-clause-safe : goal.returns-in-Ok-clause-safe
returns-in-Ok-clause-safe g c =
    safe_pieces (g.O.Outlet.safe c.tell.new.self) (g.O.Outlet.safe c.end_line.new.output) c.args.length (g.O.Sink.written c.args.output.now) (g.O.Sink.written c.tell.new.self) (g.O.Sink.written c.end_line.new.output)
    c.tell.ensures.safe c.end_line.ensures.still c.end_line.ensures.safe
