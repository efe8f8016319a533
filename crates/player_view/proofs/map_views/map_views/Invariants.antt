use Rattle.std.proofs.Common.{◌≡◌, map, take}
use Rattle.std.specs.List.{filter}
use Rattle.player_view.specs.View.{has_map, map_view}
use Rattle.player_view.proofs.map_views.map_views.Given as goal

abbrev pub invariant-loop-place : goal.invariant-loop-place
invariant-loop-place l = l.list.items ≡ map (map_view l.scene l.seat) (filter (has_map l.seat) (take l.place l.scene.maps))
