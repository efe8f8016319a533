use Rattle.std.proofs.Common.{◌≡◌, ℕ, ◌<◌, true, get_or}
use Rattle.topology.specs.declared.wall.Wall.{Wall}
use Rattle.topology.specs.Order.{wall_before}
use Rattle.topology.proofs.walls.place_of.Given as goal

abbrev pub invariant-loop-place : goal.invariant-loop-place
invariant-loop-place l = (k : ℕ) (d : Wall) → k < l.place → wall_before (get_or l.walls k d) l.wall ≡ true
