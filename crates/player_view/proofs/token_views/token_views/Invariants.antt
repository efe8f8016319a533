use Rattle.std.proofs.Common.{◌≡◌, map, take}
use Rattle.std.specs.List.{filter}
use Rattle.player_view.specs.View.{has_token, token_view}
use Rattle.player_view.proofs.token_views.token_views.Given as goal

abbrev pub invariant-loop-place : goal.invariant-loop-place
invariant-loop-place l = l.list.items ≡ map (token_view l.scene l.seat) (filter (has_token l.scene l.seat) (take l.place l.scene.tokens))
