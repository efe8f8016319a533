use Rattle.std.proofs.Common.{◌≡◌, ◌++◌}
use Rattle.campaign_law.specs.Law.{world_of}
use Rattle.script_play.specs.Script.{takens_below}
use Rattle.script_play.specs.Sending.{lines_below, sent_below}
use Rattle.script_play.specs.Counting.{with_sent}
use Rattle.script_play.proofs.sending.add_all.Given as goal

abbrev pub invariant-loop-number : goal.invariant-loop-number
invariant-loop-number g l = record {
  entries : l.entries.items ≡ takens_below (world_of l.campaign) l.number;
  text : l.text.items ≡ l.fn.text.items ++ sent_below l.campaign l.acting l.reply l.number;
  tally : l.tally ≡ with_sent l.fn.tally (lines_below l.campaign l.acting l.reply l.number);
}
