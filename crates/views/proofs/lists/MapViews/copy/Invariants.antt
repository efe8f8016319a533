use Rattle.std.proofs.Common.{◌≡◌, take}
use Rattle.views.proofs.lists.MapViews.copy.Given as goal

abbrev pub invariant-loop-map : goal.invariant-loop-map
invariant-loop-map l = l.list.items ≡ take l.map-index l.self
