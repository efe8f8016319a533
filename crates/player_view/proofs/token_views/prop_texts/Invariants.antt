use Rattle.std.proofs.Common.{◌≡◌, take}
use Rattle.player_view.proofs.token_views.prop_texts.Given as goal

abbrev pub invariant-loop-place : goal.invariant-loop-place
invariant-loop-place l = l.list.items ≡ take l.place l.props
