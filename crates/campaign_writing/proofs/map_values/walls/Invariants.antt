use Rattle.std.proofs.Common.{◌≡◌, take, map}
use Rattle.serde_json.specs.View.{view}
use Rattle.campaign_writing.specs.Scenes.{wall_tree}
use Rattle.campaign_writing.proofs.map_values.walls.Given as goal

abbrev pub invariant-loop-one : goal.invariant-loop-one
invariant-loop-one l = map view l.list.items ≡ map wall_tree (take l.one-index l.one-items)
