use Rattle.turn_lock.proofs.RuledSteps.{closes}
use Rattle.turn_lock.proofs.turns.close_table.Goals as goal

pub returns : goal.returns
returns g c = let took = c.take_turn.ensures in
    let there = closes g.O.Object.origin g.O.Object.history _ _ c.args.seat.me c.take_turn.new.seat.me _ _ _ c.requires.idle.2 took.turn took.front took.heard c.close_with-closed.ensures.values.2 c.take-object.ensures.value in
    record { origin = there.0; front = there.1; heard = there.2 }
