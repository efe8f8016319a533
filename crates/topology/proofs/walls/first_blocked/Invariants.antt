use Rattle.topology.proofs.PathLemmas.{AreFreeBefore}
use Rattle.topology.proofs.walls.first_blocked.Given as goal

abbrev pub invariant-loop-next : goal.invariant-loop-next
invariant-loop-next l = AreFreeBefore l.walls l.path l.next
