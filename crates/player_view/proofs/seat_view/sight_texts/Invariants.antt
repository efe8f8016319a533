use Rattle.std.proofs.Common.{◌≡◌, map, take}
use Rattle.player_view.specs.View.{sight_text}
use Rattle.player_view.proofs.seat_view.sight_texts.Given as goal

abbrev pub invariant-loop-place : goal.invariant-loop-place
invariant-loop-place l = l.list.items ≡ map sight_text (take l.place l.scene.sights)
