use Rattle.std.proofs.Common.{◌≡◌, ◌-◌}
use Rattle.std.specs.List.{list_any, range_with_len}
use Rattle.player_view.specs.Shown.{is_in, touches}
use Rattle.player_view.proofs.token_views.touches.Given as goal

abbrev pub invariant-loop-x : goal.invariant-loop-x
invariant-loop-x l = list_any (λ x. list_any (λ y. is_in l.cells x y) (range_with_len l.token.cell.y l.token.size)) (range_with_len l.x (l.right - l.x)) ≡ touches l.token l.cells
