use Rattle.std.proofs.Common.{◌≡◌, ◌≤◌}
use mathlib.Core.List.{IsPrefix}
use Rattle.turn_lock.specs.Pass.{IsPassOf}
use Rattle.evening_log.proofs.settling.settle_together.Given as goal

abbrev pub invariant-loop : goal.invariant-loop
invariant-loop g l = record {
  hall : IsPassOf l.log l.pass;
  number : l.pass.number ≡ l.fn.pass.number;
  front : IsPrefix l.fn.pass.front l.pass.front;
  heard : l.fn.pass.heard ≤ l.pass.heard;
}
