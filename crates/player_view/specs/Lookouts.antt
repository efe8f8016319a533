-- What is found of a map once for all its players.
use Rattle.std.specs.Prelude.{◌≡◌, ℕ, Bool, false, List, length, Option, Some, None, slice_get}
use Rattle.std.specs.List.{filter, list_any, range_with_len}
use Rattle.cells.specs.Cells.{Cells, cells_where}
use Rattle.maps.specs.Maps.{Grid}
use Rattle.tokens.specs.declared.token.Token.{Token}
use Rattle.player_view.specs.Sight.{is_on, lamps_on, shows_cell}
use Rattle.player_view.specs.declared.lookout.Lookout.{Lookout}
use Rattle.world.specs.Scene.{Scene}

abbrev pub stands_on : List ℕ → Option Token → Bool
stands_on name None = false
stands_on name (Some t) = is_on name t

-- the places, of the first so many, of tokens on the map of that name
abbrev pub places_among : Scene → List ℕ → ℕ → List ℕ
places_among s name count = filter (λ place. stands_on name (slice_get s.tokens place)) (range_with_len 0 count)

-- what is found is the map's
pub record IsLookout (s : Scene) (lookout : Lookout) : Type 0 where
  pub lamps : lookout.lamps.items ≡ lamps_on s lookout.name
  pub places : lookout.places.items ≡ places_among s lookout.name (length s.tokens)

abbrev pub shows_by : Scene → ℕ → Grid → ℕ → ℕ → Option Token → Bool
shows_by s p m x y None = false
shows_by s p m x y (Some t) = shows_cell s p m x y t

-- the token at the place shows the player the cell (x, y) of the map
abbrev pub shows_at : Scene → ℕ → Grid → ℕ → ℕ → ℕ → Bool
shows_at s p m x y place = shows_by s p m x y (slice_get s.tokens place)

-- what the tokens at these places show the player of the map
unfoldable pub visible_at : Scene → ℕ → Grid → List ℕ → Cells
visible_at s p m places = cells_where m.walls.extent (λ x y. list_any (shows_at s p m x y) places)
