use Rattle.std.proofs.Common.{take}
use Rattle.std.specs.List.{list_any}
use Rattle.view_marks.specs.Onlookers.{AreWhere, plays_on}
use Rattle.view_marks.proofs.onlooking.players_on.Given as goal

abbrev pub invariant-loop-place : goal.invariant-loop-place
invariant-loop-place l = AreWhere l.players (λ p. list_any (plays_on l.name p) (take l.place l.scene.tokens))
