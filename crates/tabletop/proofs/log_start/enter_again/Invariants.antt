use Rattle.std.proofs.Common.{◌≡◌, ◌++◌}
use Rattle.std.specs.Vec.Iter.{into_iter_items}
use Rattle.tabletop.proofs.log_start.enter_again.Given as goal

abbrev pub invariant-loop-entry : goal.invariant-loop-entry
invariant-loop-entry g l = record {
  origin : l.campaign.origin ≡ l.fn.campaign.origin;
  history : l.campaign.history ≡ l.fn.campaign.history ++ l.yielded;
  whole : l.yielded ++ into_iter_items l.entry-iterator ≡ l.fn.entries.items;
}
