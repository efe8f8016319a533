use Rattle.std.proofs.Common.{◌≡◌, ◌≤◌, ◌+◌, ◌++◌}
use Rattle.std.specs.Vec.Iter.{into_iter_items}
use Rattle.campaign_law.specs.Law.{world_of}
use Rattle.script_play.specs.Counting.{looks_in}
use Rattle.script_play.specs.Played.{entries_since}
use Rattle.script_play.proofs.run.enter_all.Given as goal

abbrev pub invariant-loop-entry : goal.invariant-loop-entry
invariant-loop-entry g l = record {
  origin : l.campaign.origin ≡ l.fn.campaign.origin;
  history : l.campaign.history ≡ l.fn.campaign.history ++ l.yielded;
  looks : l.campaign.looks ≤ l.fn.campaign.looks + looks_in (world_of l.fn.campaign) (entries_since l.fn.campaign l.campaign);
  whole : l.yielded ++ into_iter_items l.entry-iterator ≡ l.fn.entries.items;
}
