use Rattle.std.proofs.Common.{take}
use Rattle.std.specs.List.{list_any}
use Rattle.view_marks.specs.Onlookers.{AreWhere, meets_as}
use Rattle.view_marks.proofs.onlooking.met_with.Given as goal

abbrev pub invariant-loop-place : goal.invariant-loop-place
invariant-loop-place l = AreWhere l.players (λ p. list_any (meets_as l.scene l.id p) (take l.place l.scene.tokens))
