use Rattle.std.proofs.Common.{◌≡◌, ◌+◌, ◌*◌}
use Rattle.std.specs.Prelude.{All}
use Rattle.drill.specs.Script.{IsOnMap}
use Rattle.drill.specs.Numbered.{cells_up_to}
use Rattle.drill.specs.Campaign.{tokens_up_to, walls_up_to, world_with}
use Rattle.drill.proofs.campaign.add_owned.Given as goal

abbrev pub invariant-loop-number : goal.invariant-loop-number
invariant-loop-number l = record {
  world : l.world ≡ world_with (walls_up_to l.initial.draws.number 600) (tokens_up_to l.initial.draws.number l.number);
  draws : l.draws ≡ record l.initial.draws { next = 2400 + 2 * l.number };
  on : All IsOnMap l.cells.items;
  cells : l.cells.items ≡ cells_up_to l.initial.draws.number l.number;
}
