use Rattle.std.proofs.Common.{◌≡◌, ◌++◌, drop}
use Rattle.campaign_law.specs.Feeding.{MayFeedAll}
use Rattle.campaign_law.specs.Law.{bytes_of}
use Rattle.campaign_law.specs.Player.{machine, run}
use Rattle.player_machine.specs.Items.{items_in}
use Rattle.player_machine.proofs.printing.printed_bytes.Given as goal

abbrev pub invariant-loop-item : goal.invariant-loop-item
invariant-loop-item l = record {
  feed : MayFeedAll l.machine (items_in (drop l.item-index l.items));
  printed : l.bytes.items ++ bytes_of (run l.machine (items_in (drop l.item-index l.items))) ≡ bytes_of (machine l.fn.opening (items_in l.items));
}
