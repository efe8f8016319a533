use Rattle.std.proofs.Common.{◌≡◌, ◌++◌, ◌-◌, map}
use Rattle.std.specs.List.{range_with_len}
use Rattle.player_view.specs.View.{lettered}
use Rattle.player_view.proofs.map_views.add_run.Given as goal

abbrev pub invariant-loop-x : goal.invariant-loop-x
invariant-loop-x l = l.list.items ≡ l.initial.list.items ++ map (lettered l.map l.run.y) (range_with_len l.run.x0 (l.x - l.run.x0))
