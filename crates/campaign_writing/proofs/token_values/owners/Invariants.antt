use Rattle.std.proofs.Common.{◌≡◌, ◌<◌, ◌^◌, map}
use Rattle.std.specs.List.{filter, range_with_len}
use Rattle.serde_json.specs.View.{view}
use Rattle.tokens.specs.Owners.{has_owner}
use Rattle.campaign_writing.specs.Trees.{whole}
use Rattle.campaign_writing.proofs.token_values.owners.Given as goal

abbrev pub invariant-loop-number : goal.invariant-loop-number
invariant-loop-number l = record { tree : map view l.list.items ≡ map whole (filter (has_owner l.owners) (range_with_len 0 l.number)); seats : 0 < l.number → l.owners < 2 ^ 33 }
