use Rattle.std.proofs.Common.{◌≡◌}
use Rattle.campaign_law.specs.Law.{world_of}
use Rattle.tabletop.specs.Logged.{leaves_below}
use Rattle.tabletop.proofs.log_start.leaves_due.Given as goal

abbrev pub invariant-loop-number : goal.invariant-loop-number
invariant-loop-number g l = record {
  entries : l.entries.items ≡ leaves_below (world_of l.campaign) l.number;
}
