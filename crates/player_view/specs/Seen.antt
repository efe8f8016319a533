-- What is seen of the map of an exposed set, by its player.
use Rattle.std.specs.Prelude.{◌≡◌, ℕ, false, List, Option, Some, None, slice_get}
use Rattle.cells.specs.Cells.{Cells, cells_where}
use Rattle.fog_book.specs.declared.exposure.Exposure.{Exposure}
use Rattle.maps.specs.Maps.{Grid, map_of}
use Rattle.world.specs.Scene.{Scene}
use Rattle.player_view.specs.Sight.{visible}

abbrev pub seen_on : Scene → Exposure → Option Grid → Cells
seen_on s set None = cells_where set.cells.extent (λ x y. false)
seen_on s set (Some m) = visible s set.seat m

abbrev pub seen_for : Scene → Exposure → Cells
seen_for s set = seen_on s set (map_of set.map s.maps)

-- the cells at the place of an exposed set, where there are any, are what its player sees of its map
pub record AreSeen (s : Scene) (seen : List (Option Cells)) : Type 0 where
  pub each : (place : ℕ) (set : Exposure) (cells : Cells) → slice_get s.fog.sets place ≡ Some set → slice_get seen place ≡ Some (Some cells)
      → cells ≡ seen_for s set
