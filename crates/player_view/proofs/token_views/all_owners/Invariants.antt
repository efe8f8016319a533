use Rattle.std.proofs.Common.{◌≡◌}
use Rattle.std.specs.List.{filter, range_with_len}
use Rattle.tokens.specs.Owners.{has_owner}
use Rattle.player_view.proofs.token_views.all_owners.Given as goal

abbrev pub invariant-loop-number : goal.invariant-loop-number
invariant-loop-number l = l.list.items ≡ filter (has_owner l.owners) (range_with_len 0 l.number)
