use Rattle.std.specs.Prelude.{◌≡◌, not, nat_le, ◌&&◌, if◌then◌else◌, length, Option, Some, None}
use Rattle.names.specs.declared.kinds.WallKind.{WallKind}
use Rattle.lattice.specs.Coordinates.{Coordinates}
use Rattle.topology.specs.Order.{point_eq, wall_between}
use Rattle.topology.specs.WallLists.{WallLists, walls_of, on_map_test, has_wall}
use Rattle.topology.specs.declared.walls.WallFault.{WallFault}
use Rattle.topology.specs.declared.walls.WallFault.TheVariants.{OffMap, DegenerateWall, WallThere, WallLimit, Memory}

-- the first check that a new wall breaks, in the order in which they are made
abbrev pub wall_fault : WallLists → WallKind → Coordinates → Coordinates → Option WallFault
wall_fault walls kind a b =
    if not (on_map_test walls.extent a && on_map_test walls.extent b) then Some OffMap
    else if point_eq a b then Some DegenerateWall
    else if has_wall (wall_between a b) (walls_of walls kind) then Some WallThere
    else if nat_le 2048 (length (walls_of walls kind)) then Some WallLimit
    else None

-- the fault is the broken check, or want of memory where none is broken
abbrev pub IsFaultOf : Option WallFault → WallFault → Type 0
IsFaultOf None fault = fault ≡ Memory
IsFaultOf (Some broken) fault = fault ≡ broken
