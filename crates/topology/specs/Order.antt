use Rattle.std.specs.Prelude.{Bool, nat_lt, nat_eq, ◌&&◌, ◌||◌, if◌then◌else◌}
use Rattle.lattice.specs.Coordinates.{Coordinates}
use Rattle.topology.specs.declared.wall.Wall.{Wall}

-- the points are the same
abbrev pub point_eq : Coordinates → Coordinates → Bool
point_eq a b = nat_eq a.x b.x && nat_eq a.y b.y

-- the one point is before the other, by x, then y
abbrev pub point_before : Coordinates → Coordinates → Bool
point_before a b = nat_lt a.x b.x || (nat_eq a.x b.x && nat_lt a.y b.y)

-- the walls are the same
abbrev pub wall_eq : Wall → Wall → Bool
wall_eq wall other = point_eq wall.first other.first && point_eq wall.second other.second

-- the one wall stands before the other, by the four numbers of their ends
abbrev pub wall_before : Wall → Wall → Bool
wall_before wall other =
    point_before wall.first other.first || (point_eq wall.first other.first && point_before wall.second other.second)

-- the wall between two points, the lesser first
abbrev pub wall_between : Coordinates → Coordinates → Wall
wall_between a b = if point_before b a then record { first = b; second = a } else record { first = a; second = b }
