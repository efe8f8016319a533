use Rattle.std.specs.Prelude.{ℕ, ◌≡◌, ◌<◌, ◌≤◌, ◌*◌, ◌⊎◌, ◌↔◌, IsTrue, Bool, not, ◌&&◌, ◌||◌, All}
use Rattle.std.specs.List.{list_all}
use Rattle.lattice.specs.Coordinates.{Coordinates, centre_of, squared_distance, within_test}
use Rattle.lattice.specs.Segments.{SegmentsMeet}
use Rattle.lattice.specs.Turning.{meet_test}
use Rattle.cells.specs.Cells.{Cells, has, cells_where}
use Rattle.topology.specs.Order.{point_eq}
use Rattle.topology.specs.WallLists.{WallLists}

-- the cell (x, y) is clear from the point: the point is the cell's centre, or no wall that blocks sight meets the
-- segment from the point to the centre
abbrev pub IsClear : WallLists → Coordinates → ℕ → ℕ → Type 0
IsClear walls eye x y =
    (eye ≡ centre_of x y) ⊎ All (λ wall. ¬ SegmentsMeet wall.first wall.second eye (centre_of x y)) walls.vbl

-- the centre of the cell (x, y) is within that many cells of the point
abbrev pub IsInReach : Coordinates → ℕ → ℕ → ℕ → Type 0
IsInReach eye x y range = squared_distance eye (centre_of x y) ≤ (2 * range) * (2 * range)

-- the tests of these
abbrev pub clear_test : WallLists → Coordinates → ℕ → ℕ → Bool
clear_test walls eye x y =
    point_eq eye (centre_of x y) || list_all (λ wall. not (meet_test wall.first wall.second eye (centre_of x y))) walls.vbl

abbrev pub reach_test : Coordinates → ℕ → ℕ → ℕ → Bool
reach_test eye x y range = within_test eye (centre_of x y) (2 * range)

-- the cell is clear and within 40 cells
abbrev pub field_test : WallLists → Coordinates → ℕ → ℕ → Bool
field_test walls eye x y = reach_test eye x y 40 && clear_test walls eye x y

-- the field of a point: the set of the cells of the map that are clear from it and within 40 cells
abbrev pub field_of : WallLists → Coordinates → Cells
field_of walls eye = cells_where walls.extent (field_test walls eye)

-- the set has just the cells of the map that are clear from the point and within 40 cells
pub record IsField (walls : WallLists) (eye : Coordinates) (set : Cells) : Type 0 where
  pub map : set.extent ≡ walls.extent
  pub cells : (x y : ℕ) → x < walls.extent.w → y < walls.extent.h
      → IsTrue (has set x y) ↔ (IsClear walls eye x y × IsInReach eye x y 40)
