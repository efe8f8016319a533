use Rattle.std.proofs.Common.{◌≡◌, ◌*◌, []}
use Rattle.drill.specs.Campaign.{walls_up_to, world_with}
use Rattle.drill.proofs.campaign.add_walls.Given as goal

abbrev pub invariant-loop-wall : goal.invariant-loop-wall
invariant-loop-wall l = record {
  world : l.world ≡ world_with (walls_up_to l.initial.draws.number l._wall) [];
  draws : l.draws ≡ record l.initial.draws { next = 4 * l._wall };
}
