use Rattle.std.proofs.Common.{ℕ, ◌*◌, not, refl}
use Rattle.std.specs.Bool.{Decides}
use Rattle.std.specs.List.{list_all}
use Rattle.std.proofs.lemmas.Bool.Decides.{Decides-and, Decides-or, Decides-not, Decides-by_and}
use Rattle.lattice.specs.Coordinates.{Coordinates, centre_of}
use Rattle.lattice.specs.Segments.{SegmentsMeet}
use Rattle.lattice.specs.Turning.{meet_test}
use Rattle.lattice.proofs.CoordinatesLemmas.{within_test_tells}
use Rattle.lattice.proofs.TestLemmas.{meet_test_tells}
use Rattle.cells.proofs.SetLaws.{has-cells_where}
use Rattle.topology.specs.declared.wall.Wall.{Wall}
use Rattle.topology.specs.WallLists.{WallLists}
use Rattle.topology.specs.Sight.{IsClear, IsInReach, IsField, clear_test, reach_test, field_test, field_of}
use Rattle.topology.proofs.OrderLemmas.{point_eq_tells}

-- the test tells whether the cell is clear from the point
pub clear_test_tells : (walls : WallLists) (eye : Coordinates) (x y : ℕ) → Decides (clear_test walls eye x y) (IsClear walls eye x y)
clear_test_tells walls eye x y =
    Decides-or _ _ (point_eq_tells eye (centre_of x y))
    (Decides-by_and (λ (wall : Wall). not (meet_test wall.first wall.second eye (centre_of x y)))
    (λ (wall : Wall). ¬ SegmentsMeet wall.first wall.second eye (centre_of x y))
    (list_all (λ (wall : Wall). not (meet_test wall.first wall.second eye (centre_of x y))))
    (λ (wall : Wall). Decides-not _ (meet_test_tells wall.first wall.second eye (centre_of x y)))
    refl (λ _ _. refl) walls.vbl)

-- the test tells whether the cell is within that many cells of the point
pub reach_test_tells : (eye : Coordinates) (x y range : ℕ) → Decides (reach_test eye x y range) (IsInReach eye x y range)
reach_test_tells eye x y range = within_test_tells eye (centre_of x y) (2 * range)

-- the test tells whether the cell is of the point's field
pub field_test_tells : (walls : WallLists) (eye : Coordinates) (x y : ℕ)
    → Decides (field_test walls eye x y) (IsInReach eye x y 40 × IsClear walls eye x y)
field_test_tells walls eye x y = Decides-and _ _ (reach_test_tells eye x y 40) (clear_test_tells walls eye x y)

-- the set of the cells that pass the test is the field
pub IsField-field_of : (walls : WallLists) (eye : Coordinates) → IsField walls eye (field_of walls eye)
IsField-field_of walls eye = record {
  map = refl;
  cells = λ x y hx hy.
      let told = field_test_tells walls eye x y in
      rw (has-cells_where walls.extent (field_test walls eye) x y hx hy)
      (λ h. (let both = told.0 h in (both.1, both.0)), λ both. told.1 (both.1, both.0));
}
