use Rattle.std.proofs.Common.{refl}
use Rattle.session.proofs.Servings.{serves_nothing, serves_unread, serves_strange, serves_greeted}
use Rattle.session.specs.Safely.{silent}
use Rattle.session.proofs.SafeSessions.{says_strange}
use Rattle.session.proofs.service.serve.Goals as goal

pub returns-in_default-clause-served : goal.returns-in_default-clause-served
returns-in_default-clause-served g c = serves_nothing c.args.hall.now.origin c.args.reader.now c.args.writer.now (g.I.Source.left c.args.input.now) (g.O.Sink.written c.args.output.now) (g.O.Sink.faults_of c.args.output.now)

pub returns-in-Hello-clause-served : goal.returns-in-Hello-clause-served
returns-in-Hello-clause-served g c =
    serves_greeted c.args.hall.now.origin c.args.reader.now c.args.writer.now c.in-Ok.lines c.sit.new.lines (g.I.Source.left c.args.input.now) (g.I.Source.left c.sit.new.input) (g.O.Sink.written c.args.output.now) (g.O.Sink.written c.sit.new.output) (g.O.Sink.faults_of c.args.output.now) (g.O.Sink.faults_of c.sit.new.output) c.sit.result c.in-Ok.ensures c.sit.ensures.lines
    c.sit.new.reader c.sit.new.writer c.in-Hello.seat c.in-Hello.key _ c.in-Hello.ensures.begins c.sit.ensures.sat

pub returns-in-Other-clause-served : goal.returns-in-Other-clause-served
returns-in-Other-clause-served g c =
    serves_strange c.args.hall.now.origin c.args.reader.now c.args.writer.now c.in-Ok.lines c.read_first.new.reader (g.I.Source.left c.args.input.now) (g.I.Source.left c.read_first.new.input) (g.O.Sink.written c.args.output.now) (g.O.Sink.written c.no_hello.new.output) (g.O.Sink.faults_of c.args.output.now) (g.O.Sink.faults_of c.no_hello.new.output) c.no_hello.result c.in-Ok.ensures c.read_first.ensures.reader
    c.in-Other.ensures.begins c.no_hello.ensures.tells

pub returns-clause-served : goal.returns-clause-served
returns-clause-served g c =
    serves_unread c.args.hall.now.origin c.args.reader.now c.args.writer.now c.in-Ok.lines c.read_first.new.reader (g.I.Source.left c.args.input.now) (g.I.Source.left c.read_first.new.input) (g.O.Sink.written c.args.output.now) (g.O.Sink.written c.args.output.now) (g.O.Sink.faults_of c.args.output.now) (g.O.Sink.faults_of c.args.output.now) c.stopped.result c.in-Ok.ensures c.read_first.ensures.reader
    c.in-Missing.stop c.in-Missing.ensures.begins (c.read_first.ensures.stops c.in-Missing.stop c.in-Missing.is) refl c.stopped.ensures

pub returns-in_default-clause-safe : goal.returns-in_default-clause-safe
returns-in_default-clause-safe g c = silent refl

pub returns-in-Other-clause-safe : goal.returns-in-Other-clause-safe
returns-in-Other-clause-safe g c =
    says_strange (g.O.Outlet.safe c.no_hello.new.output) c.args.hall.now.origin c.args.reader.now c.args.writer.now (g.O.Sink.written c.args.output.now) (g.O.Sink.written c.no_hello.new.output) c.no_hello.ensures.safe

pub returns-clause-safe : goal.returns-clause-safe
returns-clause-safe g c = silent refl
