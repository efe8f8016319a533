use Rattle.std.proofs.Common.{◌≡◌}
use Rattle.drill.specs.Script.{hellos_text}
use Rattle.drill.proofs.script.hellos.Given as goal

abbrev pub invariant-loop-seat : goal.invariant-loop-seat
invariant-loop-seat l = l.text.items ≡ hellos_text l.seat
