use Rattle.std.proofs.Common.{◌≡◌, take}
use Rattle.maps.proofs.map_table.copy_maps.Given as goal

abbrev pub invariant-loop-map : goal.invariant-loop-map
invariant-loop-map l = l.copy.items ≡ take l.map-index l.maps.items
