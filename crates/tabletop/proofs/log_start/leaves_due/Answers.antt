use Rattle.std.proofs.Common.{◌≡◌, ℕ, ◌++◌, ◌∙◌, ap, sym, arith, length}
use Rattle.campaign_law.specs.World.{World, seat_at}
use Rattle.campaign_law.specs.Law.{world_of}
use Rattle.script_play.proofs.EntryLines.{seats_of_replay}
use Rattle.tabletop.specs.Logged.{leave_of, leaves_below, leaves}
use Rattle.tabletop.proofs.Leaves.{leaves_next}
use Rattle.tabletop.proofs.log_start.leaves_due.Goals as goal

pub loop-number-preserved : goal.loop-number-preserved
loop-number-preserved g c =
    let n : ℕ = c.loop-number.number in
    let w : World = world_of c.args.campaign.now in
    record { entries = c.in_ok-add_leave.ensures ∙ ap (λ es. es ++ leave_of n (seat_at w n)) c.loop-number.invariant.entries ∙ sym (leaves_next w n) }

pub returns : goal.returns
unfolding leaves
returns g c =
    let end : c.loop-number.number ≡ length c.args.campaign.now.origin.seats = omega (arith, c.loop-number-test.false, c.loop-number.auto.number-end, c.seat_count-seats.ensures.value) in
    c.loop-number.invariant.entries
    ∙ ap (leaves_below (world_of c.args.campaign.now)) (end ∙ sym (seats_of_replay c.args.campaign.now.origin c.args.campaign.now.history))
