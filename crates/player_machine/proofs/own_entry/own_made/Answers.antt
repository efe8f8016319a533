use Rattle.std.proofs.Common.{◌≡◌, ap, length, arith, rules, refl}
use Rattle.campaign_law.specs.Player.{Machine}
use Rattle.player_machine.proofs.Seated.{seat_is}
use Rattle.player_machine.proofs.own_entry.own_made.Goals as goal

pub returns-clause-seat : goal.returns-clause-seat
returns-clause-seat c =
    let count : c.len.result ≡ length c.in_ok-lines.lines.items = first_of (search rules, grind arith) in
    seat_is c.args.machine.now c.args.entry.now c.args.steps _ _ _ _ _ _ _ _ c.in_ok-outcome.ensures (ap (λ (m : Machine). m.seat) c.machine.view_is) c.seat.ensures c.in_ok-lines.ensures count
    c.direct_count.ensures refl c.in_ok-seat.ensures
