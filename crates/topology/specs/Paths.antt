-- Paths over a map: step k of a path goes from its point k to its point k + 1.
use Rattle.std.specs.Prelude.{ℕ, ◌+◌, ◌-◌, ◌<◌, Bool, List, length, Option, slice_index_or}
use Rattle.std.specs.List.{Any, find, list_any, range_with_len}
use Rattle.lattice.specs.Coordinates.{Coordinates}
use Rattle.lattice.specs.Segments.{SegmentsMeet}
use Rattle.lattice.specs.Turning.{meet_test}
use Rattle.topology.specs.declared.wall.Wall.{Wall}
use Rattle.topology.specs.WallLists.{WallLists}

-- the point of the path at that place: behind its end, the corner of the map
abbrev pub point_at : List Coordinates → ℕ → Coordinates
point_at path k = slice_index_or path k (record { x = 0; y = 0 })

-- the step meets a wall that blocks movement
abbrev pub IsBlocked : WallLists → List Coordinates → ℕ → Type 0
IsBlocked walls path k = Any (λ wall. SegmentsMeet wall.first wall.second (point_at path k) (point_at path (k + 1))) walls.mbl

-- the step is the first of the path's that meets a wall that blocks movement
pub record IsFirstBlock (walls : WallLists) (path : List Coordinates) (k : ℕ) : Type 0 where
  pub step : k + 1 < length path
  pub blocked : IsBlocked walls path k
  pub first : (j : ℕ) → j < k → ¬ IsBlocked walls path j

-- no step of the path meets a wall that blocks movement
abbrev pub IsFree : WallLists → List Coordinates → Type 0
IsFree walls path = (k : ℕ) → k + 1 < length path → ¬ IsBlocked walls path k

-- the test whether the step meets one of these walls
abbrev pub block_test : List Wall → List Coordinates → ℕ → Bool
block_test walls path k = list_any (λ wall. meet_test wall.first wall.second (point_at path k) (point_at path (k + 1))) walls

-- the first step that meets a wall that blocks movement
abbrev pub first_block : WallLists → List Coordinates → Option ℕ
first_block walls path = find (block_test walls.mbl path) (range_with_len 0 (length path - 1))
