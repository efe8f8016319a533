use Rattle.std.proofs.Common.{◌≡◌, ◌<◌, ◌∙◌, ℕ, Some, sym, subst}
use Rattle.campaign_law.specs.World.{replay}
use Rattle.campaign_law.specs.Law.{IsOpening}
use Rattle.campaign_core.specs.Over.{over_of}
use Rattle.session.proofs.Cutting.{joined_seats, cut_fewer, cut_further}
use Rattle.session.proofs.speaking.cut_all.Goals as goal

pub loop-seat-smaller : goal.loop-seat-smaller
loop-seat-smaller c =
    let w = c.loop-seat.campaign.origin in
    let h = c.loop-seat.campaign.history in
    let many : ℕ = joined_seats (replay w h).seats in
    let opening = subst IsOpening (sym c.loop-seat.invariant.origin) c.seat_count-seats.ensures.opening in
    subst (λ x. joined_seats (replay x c.cut.new.campaign.history).seats < many) (sym c.cut.ensures.origin)
    (subst (λ l. joined_seats (replay w l).seats < many) (sym c.cut.ensures.history) (cut_fewer w h c.in-Some.seat opening c.in-Some.ensures.joined))

pub loop-seat-preserved : goal.loop-seat-preserved
loop-seat-preserved c =
    let o = c.args.campaign.now.origin in
    let mid = c.loop-seat.campaign.history in
    record {
      origin = c.cut.ensures.origin ∙ c.loop-seat.invariant.origin;
      cut = cut_further o c.args.campaign.now.history mid c.cut.new.campaign.history c.in-Some.seat c.loop-seat.invariant.cut
          (subst (λ w. over_of w mid ≡ Some c.in-Some.seat) c.loop-seat.invariant.origin (sym c.in-Some.ensures.value)) c.cut.ensures.history;
    }
