use Rattle.std.proofs.Common.{ap}
use Rattle.std.specs.Prelude.{Err}
use Rattle.session.specs.declared.writing.Wrote.TheVariants.{All as AllWritten, Memory}
use Rattle.session.specs.declared.writing.Wrote.TheVariants as writes
use Rattle.session.proofs.Pens.{over_gone, over_cut, over_memory, stays, more, over_sending, so_over}
use Rattle.session.proofs.pen.write_next.Goals as goal

pub returns-in-Gone : goal.returns-in-Gone
returns-in-Gone g c = record {
  written = so_over g.S.Start.begun (g.O.Outlet.safe c.args.output.now) c.exchange-found.new.pass c.args.count AllWritten (g.O.Sink.written c.args.output.now) (g.O.Sink.faults_of c.args.output.now) c.over.result.count c.over.result.over
      (over_gone g.S.Start.begun (g.O.Outlet.safe c.args.output.now) c.args.pass.now c.exchange-found.new.pass c.args.count (g.O.Sink.written c.args.output.now) (g.O.Sink.faults_of c.args.output.now) c.exchange-found.result.0 c.exchange-found.result.1 c.args.hall.now c.args.hold.now c.requires.hall c.requires.hold c.requires.written c.exchange-found.ensures.hall c.exchange-found.ensures.turn c.in-Gone.is) c.over.ensures.count c.over.ensures.over;
}

pub returns-in-Cut : goal.returns-in-Cut
returns-in-Cut g c = record {
  written = so_over g.S.Start.begun (g.O.Outlet.safe c.args.output.now) c.exchange-found.new.pass c.args.count writes.Cut (g.O.Sink.written c.args.output.now) (g.O.Sink.faults_of c.args.output.now) c.over-in-Cut.result.count c.over-in-Cut.result.over
      (over_cut g.S.Start.begun (g.O.Outlet.safe c.args.output.now) c.args.pass.now c.exchange-found.new.pass c.args.count (g.O.Sink.written c.args.output.now) (g.O.Sink.faults_of c.args.output.now) c.exchange-found.result.0 c.exchange-found.result.1 c.args.hall.now c.args.hold.now c.requires.hall c.requires.hold c.requires.written c.exchange-found.ensures.hall c.exchange-found.ensures.turn c.in-Cut.is) c.over-in-Cut.ensures.count c.over-in-Cut.ensures.over;
}

pub returns-in-Memory : goal.returns-in-Memory
returns-in-Memory g c = record {
  written = so_over g.S.Start.begun (g.O.Outlet.safe c.args.output.now) c.leave.new.pass c.args.count Memory (g.O.Sink.written c.args.output.now) (g.O.Sink.faults_of c.args.output.now) c.over-in-Memory.result.count c.over-in-Memory.result.over
      (over_memory g.S.Start.begun (g.O.Outlet.safe c.args.output.now) c.args.pass.now c.exchange-found.new.pass c.args.count (g.O.Sink.written c.args.output.now) (g.O.Sink.faults_of c.args.output.now) c.exchange-found.result.0 c.exchange-found.result.1 c.args.hall.now c.args.hold.now c.requires.hall c.requires.hold c.requires.written c.exchange-found.ensures.hall c.exchange-found.ensures.turn c.leave.new.pass c.leave.ensures.hall c.leave.ensures.turn) c.over-in-Memory.ensures.count c.over-in-Memory.ensures.over;
}

pub returns-then-lines-eq0 : goal.returns-then-lines-eq0
returns-then-lines-eq0 g c = record { written = stays g.S.Start.begun (g.O.Outlet.safe c.args.output.now) c.args.pass.now c.exchange-found.new.pass c.args.count (g.O.Sink.written c.args.output.now) (g.O.Sink.faults_of c.args.output.now) c.exchange-found.result.0 c.exchange-found.result.1 c.args.hall.now c.args.hold.now c.requires.hall c.requires.hold c.requires.written c.exchange-found.ensures.hall c.exchange-found.ensures.turn }

pub returns-in-Ok : goal.returns-in-Ok
returns-in-Ok g c = record {
  written = more g.S.Start.begun (g.O.Outlet.safe c.args.output.now) c.args.pass.now c.exchange-found.new.pass c.args.count (g.O.Sink.written c.args.output.now) (g.O.Sink.faults_of c.args.output.now) c.exchange-found.result.0 c.exchange-found.result.1 c.args.hall.now c.args.hold.now c.requires.hall c.requires.hold c.requires.written c.exchange-found.ensures.hall c.exchange-found.ensures.turn
      (g.O.Outlet.safe c.send.new.output) c.in-Lines.text c.in-Lines.lines (g.O.Sink.written c.send.new.output) (g.O.Sink.faults_of c.send.new.output) c.in-Lines.is c.send.ensures.still c.send.ensures.safe c.send.ensures.count c.in-Ok.count c.in-Ok.ensures.sends;
}

pub returns : goal.returns
returns g c = record {
  written = so_over g.S.Start.begun (g.O.Outlet.safe c.send.new.output) c.leave-in-Err.new.pass c.args.count c.in-Err.stop (g.O.Sink.written c.send.new.output) (g.O.Sink.faults_of c.send.new.output) c.over-in-Err.result.count c.over-in-Err.result.over
      (over_sending g.S.Start.begun (g.O.Outlet.safe c.args.output.now) c.args.pass.now c.exchange-found.new.pass c.args.count (g.O.Sink.written c.args.output.now) (g.O.Sink.faults_of c.args.output.now) c.exchange-found.result.0 c.exchange-found.result.1 c.args.hall.now c.args.hold.now c.requires.hall c.requires.hold c.requires.written c.exchange-found.ensures.hall c.exchange-found.ensures.turn
      (g.O.Outlet.safe c.send.new.output) c.in-Lines.text c.in-Lines.lines (g.O.Sink.written c.send.new.output) (g.O.Sink.faults_of c.send.new.output) c.in-Lines.is c.send.ensures.still c.send.ensures.safe c.send.ensures.count c.in-Err.stop c.leave-in-Err.new.pass c.in-Err.ensures.sends c.leave-in-Err.ensures.hall c.leave-in-Err.ensures.turn (λ fault. c.in-Err.ensures.write_fault (ap Err fault)))
      c.over-in-Err.ensures.count c.over-in-Err.ensures.over;
}
