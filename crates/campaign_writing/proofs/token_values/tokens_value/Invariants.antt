use Rattle.std.proofs.Common.{◌≡◌, take, map}
use Rattle.std.specs.List.{AllByRecursion}
use Rattle.serde_json.specs.View.{view}
use Rattle.campaign_writing.specs.Kept.{IsKeptToken}
use Rattle.campaign_writing.specs.Scenes.{token_tree}
use Rattle.campaign_writing.proofs.token_values.tokens_value.Given as goal

abbrev pub invariant-loop-place : goal.invariant-loop-place
invariant-loop-place l = record { tree : map view l.list.items ≡ map token_tree (take l.place l.tokens); each : AllByRecursion IsKeptToken (take l.place l.tokens) }
