use Rattle.std.proofs.Common.{◌≡◌}
use Rattle.campaign_law.specs.World.{replay}
use Rattle.session.specs.Spoken.{AreCut}
use Rattle.session.proofs.Cutting.{joined_seats}
use Rattle.session.proofs.speaking.cut_all.Given as goal

abbrev pub invariant-loop-seat : goal.invariant-loop-seat
invariant-loop-seat l = record {
  origin : l.campaign.origin ≡ l.fn.campaign.origin;
  cut : AreCut l.fn.campaign.origin l.fn.campaign.history l.campaign.history;
}

abbrev pub decreases-loop-seat : goal.decreases-loop-seat
decreases-loop-seat l = joined_seats (replay l.campaign.origin l.campaign.history).seats
