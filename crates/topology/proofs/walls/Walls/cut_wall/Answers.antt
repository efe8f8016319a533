use Rattle.topology.proofs.WallLemmas.{AreWalls-without_wall}
use Rattle.topology.proofs.walls.Walls.cut_wall.Goals as goal

pub invariant_of-self : goal.invariant_of-self
invariant_of-self c = (rw c.remove_wall.ensures (AreWalls-without_wall _ _ _ c.self.invariant.0), c.self.invariant.1)

pub invariant_of-self-in-Mbl : goal.invariant_of-self-in-Mbl
invariant_of-self-in-Mbl c = (c.self.invariant.0, rw c.remove_wall-in-Mbl.ensures (AreWalls-without_wall _ _ _ c.self.invariant.1))
