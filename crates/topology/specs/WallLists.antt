use Rattle.std.specs.Prelude.{ℕ, ◌≤◌, ◌*◌, Bool, not, nat_le, ◌&&◌, List, length, All, AllPairs, IsTrue, insert, filter}
use Rattle.std.specs.List.{list_any, position_or_len}
use Rattle.names.specs.declared.kinds.WallKind.{WallKind}
use Rattle.names.specs.declared.kinds.WallKind.TheVariants.{Vbl, Mbl}
use Rattle.lattice.specs.Coordinates.{Coordinates}
use Rattle.cells.specs.Cells.{Extent}
use Rattle.topology.specs.declared.wall.Wall.{Wall}
use Rattle.topology.specs.Order.{point_before, wall_eq, wall_before}

-- the walls of a map of that size: those that block sight, and those that block movement
pub record WallLists : Type 0 where
  pub extent : Extent
  pub vbl : List Wall
  pub mbl : List Wall

-- the walls of one kind
abbrev pub walls_of : WallLists → WallKind → List Wall
walls_of walls Vbl = walls.vbl
walls_of walls Mbl = walls.mbl

-- the same with other walls of one kind
abbrev pub with_walls : WallLists → WallKind → List Wall → WallLists
with_walls walls Vbl list = record { extent = walls.extent; vbl = list; mbl = walls.mbl }
with_walls walls Mbl list = record { extent = walls.extent; vbl = walls.vbl; mbl = list }

-- the point is on the map, its edges included
abbrev pub IsOnMap : Extent → Coordinates → Type 0
IsOnMap map point = (point.x ≤ 2 * map.w) × (point.y ≤ 2 * map.h)

abbrev pub on_map_test : Extent → Coordinates → Bool
on_map_test map point = nat_le point.x (2 * map.w) && nat_le point.y (2 * map.h)

-- what is true of the walls of one kind: they are at most 2,048, on the map, each from its lesser end to the other,
-- and in order of their four numbers, so no wall is there twice
pub record AreWalls (map : Extent) (walls : List Wall) : Type 0 where
  pub few : length walls ≤ 2048
  pub on_map : All (λ wall. IsOnMap map wall.first × IsOnMap map wall.second) walls
  pub directed : All (λ wall. IsTrue (point_before wall.first wall.second)) walls
  pub ordered : AllPairs (λ wall other. IsTrue (wall_before wall other)) walls

-- where a wall stands in walls in order: at the first that isn't before it
abbrev pub place_of : Wall → List Wall → ℕ
place_of wall walls = position_or_len (λ other. not (wall_before other wall)) walls

-- the walls with one more, in order
abbrev pub with_wall : Wall → List Wall → List Wall
with_wall wall walls = insert walls (place_of wall walls) wall

-- the walls but this one
abbrev pub without_wall : Wall → List Wall → List Wall
without_wall wall walls = filter (λ other. not (wall_eq wall other)) walls

-- the wall is one of these
abbrev pub has_wall : Wall → List Wall → Bool
has_wall wall walls = list_any (λ other. wall_eq wall other) walls
