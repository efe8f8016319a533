-- What fits together in a scene.
use Rattle.std.specs.Prelude.{◌≡◌, ℕ, ◌+◌, ◌&&◌, Bool, IsTrue, true, false, nat_le, List, map, Option, Some, None, option_map, is_some}
use Rattle.std.specs.List.{list_all, flat_map, AllByRecursion}
use Rattle.cells.specs.Cells.{Extent, Cells, IsToldByCells}
use Rattle.cells.specs.declared.cell.Cell.{Cell}
use Rattle.fog_book.specs.declared.exposure.Exposure.{Exposure}
use Rattle.fog_book.specs.Exposures.{Fog, exposed_of, key_of, keys_on}
use Rattle.maps.specs.Maps.{Grid, map_of}
use Rattle.tokens.specs.declared.token.Token.{Token}
use Rattle.tokens.specs.Owners.{seats_of}
use Rattle.type_table.specs.Types.{type_of}
use Rattle.world.specs.Scene.{Scene}

-- the size of the map of that name
abbrev pub size_of : List ℕ → List Grid → Option Extent
size_of name maps = option_map (λ m. m.walls.extent) (map_of name maps)

-- the square of that side at the cell is on a map of the size
abbrev pub fits : Extent → Cell → ℕ → Bool
fits size cell side = nat_le (cell.x + side) size.w && nat_le (cell.y + side) size.h

-- there is a map, of that size, and the square is on it
abbrev pub fits_on : Option Extent → Cell → ℕ → Bool
fits_on None cell side = false
fits_on (Some size) cell side = fits size cell side

-- nothing is named, or what is named is a type
abbrev pub is_known : {V : Type 0} → List (List ℕ × V) → Option (List ℕ) → Bool
is_known types None = true
is_known types (Some name) = is_some (type_of name types)

-- the seat is one of so many players, whose seats are numbered from 1 on
abbrev pub is_player : ℕ → ℕ → Bool
is_player players seat = nat_le 1 seat && nat_le seat players

-- the owners are players of the campaign
unfoldable pub are_players : ℕ → ℕ → Bool
are_players players owners = list_all (is_player players) (seats_of owners)

-- the token stands on a map, with types that are there, and players own it
abbrev pub belongs : Scene → Token → Bool
belongs s t =
    fits_on (size_of t.map s.maps) t.cell t.size
    && (is_known s.sights t.sight && (is_known s.lights t.light && are_players s.fog.players t.owners))

-- a set of that size is there
abbrev pub IsSetOf : Extent → Option Cells → Type 0
IsSetOf size None = ⊥
IsSetOf size (Some cells) = (cells.extent ≡ size) × IsToldByCells cells

-- the set's map is there, and the set has its size
abbrev pub IsSized : List Grid → Exposure → Type 0
IsSized maps set = size_of set.map maps ≡ Some set.cells.extent

-- the keys of the players' sets on the maps
abbrev pub keys_of : ℕ → List Grid → List (ℕ × List ℕ)
keys_of players maps = flat_map (λ m. keys_on players m.name) maps

-- each player has a set of each map's size, no seat a set of another map, and no set another size
pub record IsFogOf (maps : List Grid) (fog : Fog) : Type 0 where
  pub sets : (name : List ℕ) (size : Extent) (seat : ℕ) → size_of name maps ≡ Some size → IsTrue (is_player fog.players seat) → IsSetOf size (exposed_of fog seat name)
  pub no_others : (name : List ℕ) (seat : ℕ) → size_of name maps ≡ None → exposed_of fog seat name ≡ None
  pub each : AllByRecursion (IsSized maps) fog.sets
  -- the sets lie map by map, and on each map seat by seat
  pub in_order : map key_of fog.sets ≡ keys_of fog.players maps

-- what holds of every scene between two calls
pub record IsScene (s : Scene) : Type 0 where
  pub tokens : IsTrue (list_all (belongs s) s.tokens)
  pub fog : IsFogOf s.maps s.fog
