use Rattle.std.proofs.Common.{◌≡◌, take, map}
use Rattle.std.specs.List.{AllByRecursion}
use Rattle.serde_json.specs.View.{view}
use Rattle.campaign_writing.specs.Kept.{IsKeptMap}
use Rattle.campaign_writing.specs.Scenes.{map_tree}
use Rattle.campaign_writing.proofs.map_values.maps_value.Given as goal

abbrev pub invariant-loop-place : goal.invariant-loop-place
invariant-loop-place l = record { tree : map view l.list.items ≡ map (map_tree l.format) (take l.place l.maps); each : AllByRecursion IsKeptMap (take l.place l.maps) }
