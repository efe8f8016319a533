use Rattle.std.proofs.Common.{◌≡◌, ◌≤◌, ℕ}
use Rattle.turn_lock.specs.SeatView.{informed}
use Rattle.turn_lock.proofs.turns.wait_made_past.Given as goal

abbrev pub invariant-loop : goal.invariant-loop
invariant-loop g l = record {
  table : (l.seat.table_id ≡ l.initial.seat.table_id) × (l.seat.id ≡ l.initial.seat.id);
  heard : (length : ℕ) × (length ≤ l.known) × (l.seat.me ≡ (informed l.initial.seat.me.0 length, l.initial.seat.me.1));
}
