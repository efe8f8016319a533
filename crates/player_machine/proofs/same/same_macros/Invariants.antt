use Rattle.std.proofs.Common.{◌≡◌, drop}
use Rattle.views.specs.Same.{same_props}
use Rattle.player_machine.proofs.same.same_macros.Given as goal

abbrev pub invariant-loop-place : goal.invariant-loop-place
invariant-loop-place l = same_props (drop l.place l.a.macros) (drop l.place l.b.macros) ≡ same_props l.a.macros l.b.macros
