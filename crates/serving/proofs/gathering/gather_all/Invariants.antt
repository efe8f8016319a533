use Rattle.std.proofs.Common.{◌≡◌, ◌≤◌, ◌++◌, false, All, length}
use Rattle.std.specs.Arc.{arc_value}
use mathlib.Core.List.{IsPrefix}
use Rattle.line_io.specs.Counts.{CountRose}
use Rattle.line_io.specs.Connections.{IsAtLeast}
use Rattle.turn_lock.specs.Pass.{IsPassOf}
use Rattle.serving.specs.Guests.{IsGuestOf, sitting_in}
use Rattle.serving.specs.Runs.{IsSafeRun}
use Rattle.serving.specs.Fates.{HasGathered}
use Rattle.serving.proofs.gathering.gather_all.Given as goal

abbrev pub invariant-loop-guest : goal.invariant-loop-guest
invariant-loop-guest g l = record {
  fit : g.P.Spawner.fit l.spawner;
  pass : IsPassOf (arc_value l.hall) l.pass;
  number_kept : l.pass.number ≡ l.fn.pass.number;
  front : IsPrefix l.fn.pass.front l.pass.front;
  whole : l.fn.guests.items ≡ l.yielded ++ l.guest-iterator.rest.items;
  guests : All (IsGuestOf g.P.Spawner.work_of (arc_value l.hall)) l.guest-iterator.rest.items;
  away : IsAtLeast (sitting_in l.guest-iterator.rest.items) (g.L.Door.away l.door);
  counted : l.number ≡ length l.yielded;
  gathered : HasGathered g.P.Spawner.work_of (IsSafeRun g.L.Out.Outlet.safe g.L.In.Source.left g.L.Out.Sink.written g.L.In.Source.faults_of g.L.Out.Sink.faults_of) l.yielded l.fn.pass l.pass
      (g.L.Door.ended l.fn.door) (g.L.Door.ended l.door) l.printed (g.O.Sink.written l.fn.out) (g.O.Sink.written l.out);
  coming : g.L.Door.coming l.door ≡ g.L.Door.coming l.fn.door;
  door_count : g.L.Door.faults_of l.fn.door ≤ g.L.Door.faults_of l.door;
  started : g.P.Spawner.started l.spawner ≡ g.P.Spawner.started l.fn.spawner;
  spawner_count : g.P.Spawner.faults_of l.fn.spawner ≤ g.P.Spawner.faults_of l.spawner;
  out_count : g.O.Sink.faults_of l.fn.out ≤ g.O.Sink.faults_of l.out;
  out_fault : l.printed ≡ false → CountRose (g.O.Sink.faults_of l.fn.out) (g.O.Sink.faults_of l.out);
}
