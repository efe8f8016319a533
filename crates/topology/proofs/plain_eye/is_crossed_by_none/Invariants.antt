use Rattle.std.proofs.Common.{◌≡◌, true, not, take}
use Rattle.std.specs.List.{list_all}
use Rattle.lattice.specs.Turning.{meet_test}
use Rattle.topology.proofs.plain_eye.is_crossed_by_none.Given as goal

abbrev pub invariant-loop-wall : goal.invariant-loop-wall
invariant-loop-wall l = list_all (λ wall. not (meet_test wall.first wall.second l.from l.to)) (take l.wall-index l.walls) ≡ true
