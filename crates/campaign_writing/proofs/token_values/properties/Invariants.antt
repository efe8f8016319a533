use Rattle.std.proofs.Common.{◌≡◌, take, map}
use Rattle.std.specs.List.{AllByRecursion}
use Rattle.serde_json.specs.View.{view}
use Rattle.campaign_writing.specs.Kept.{IsProperty}
use Rattle.campaign_writing.specs.Scenes.{property_tree}
use Rattle.campaign_writing.proofs.token_values.properties.Given as goal

abbrev pub invariant-loop-place : goal.invariant-loop-place
invariant-loop-place l = record { tree : map view l.list.items ≡ map property_tree (take l.place l.props); each : AllByRecursion IsProperty (take l.place l.props) }
