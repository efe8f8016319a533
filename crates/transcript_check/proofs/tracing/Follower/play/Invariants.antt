use Rattle.std.proofs.Common.{◌≡◌, ◌≤◌, length}
use Rattle.line_io.specs.Lines.{lines_of}
use Rattle.script_play.specs.Script.{script_of}
use Rattle.transcript_check.specs.Tracing.{Follows}
use Rattle.transcript_check.proofs.PlayedLines.{IsPlayedTo}
use Rattle.transcript_check.proofs.tracing.Follower.play.Given as goal

abbrev pub invariant-lines : goal.invariant-lines
invariant-lines g l = record {
  origin : l.campaign.origin ≡ l.fn.campaign.origin;
  to : IsPlayedTo (script_of l.fn.campaign.origin l.fn.script) l.campaign l.number (lines_of l.rest);
  follows : Follows l.campaign l.self;
  seat : l.self.seat ≡ l.fn.self.seat;
  number : l.number ≤ 1000001;
}

abbrev pub decreases-lines : goal.decreases-lines
decreases-lines g l = length l.rest
