-- What players see is exposed to them.
use Rattle.std.specs.Prelude.{◌≡◌, ℕ, ◌||◌, not, Bool, true, false, if◌then◌else◌, map, nat_le, Option, Some, None, slice_get}
use Rattle.cells.specs.Cells.{Cells}
use Rattle.fog_book.specs.declared.exposure.Exposure.{Exposure}
use Rattle.fog_book.specs.Exposures.{joined}
use Rattle.maps.specs.Maps.{Grid, map_of}
use Rattle.tokens.specs.Owners.{has_owner}
use Rattle.world.specs.Scene.{Scene}
use Rattle.player_view.specs.Seen.{seen_for}
use Rattle.player_view.specs.Sight.{visible}

-- the exposed set with what the player sees of the map
abbrev pub with_sight : Scene → Exposure → Option Grid → Exposure
with_sight s set None = set
with_sight s set (Some m) = record set { cells = joined set.cells (visible s set.seat m) }

abbrev pub settled_set : Scene → Exposure → Exposure
settled_set s set = with_sight s set (map_of set.map s.maps)

-- each player's exposed set on each map is its union with what the player sees
unfoldable pub settled : Scene → Scene
settled s = record s { fog = record s.fog { sets = map (settled_set s) s.fog.sets } }

-- what is seen is exposed
abbrev pub IsSettled : Scene → Type 0
IsSettled s = settled s ≡ s

-- ---- looked for where it may have changed

-- the set has the seat, or there is no such seat
abbrev pub is_among : ℕ → ℕ → Bool
is_among seats p = not (nat_le p 32) || has_owner seats p

-- the player is asked what it sees: all are, where none are named
abbrev pub is_asked : Option ℕ → ℕ → Bool
is_asked None p = true
is_asked (Some players) p = is_among players p

-- what the player of the set sees of its map, where it is asked
abbrev pub found_for : Option ℕ → Scene → Exposure → Option Cells
found_for players s set = if is_asked players set.seat then Some (seen_for s set) else None

-- what those see who aren't asked is exposed
abbrev pub OthersAreSettled : Option ℕ → Scene → Type 0
OthersAreSettled players s = (place : ℕ) (set : Exposure) → slice_get s.fog.sets place ≡ Some set → is_asked players set.seat ≡ false → settled_set s set ≡ set
