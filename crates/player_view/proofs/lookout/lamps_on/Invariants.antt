use Rattle.std.proofs.Common.{◌≡◌, take}
use Rattle.std.specs.List.{filter_map}
use Rattle.player_view.specs.Sight.{lamp_on}
use Rattle.player_view.proofs.lookout.lamps_on.Given as goal

abbrev pub invariant-loop-place : goal.invariant-loop-place
invariant-loop-place l = l.lamps.items ≡ filter_map (lamp_on l.scene l.name) (take l.place l.scene.tokens)
