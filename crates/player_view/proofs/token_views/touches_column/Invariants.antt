use Rattle.std.proofs.Common.{◌≡◌, ◌-◌}
use Rattle.std.specs.List.{list_any, range_with_len}
use Rattle.player_view.specs.Shown.{is_in}
use Rattle.player_view.proofs.token_views.touches_column.Given as goal

abbrev pub invariant-loop-y : goal.invariant-loop-y
invariant-loop-y l = list_any (λ y. is_in l.cells l.x y) (range_with_len l.y (l.bottom - l.y)) ≡ list_any (λ y. is_in l.cells l.x y) (range_with_len l.top l.size)
