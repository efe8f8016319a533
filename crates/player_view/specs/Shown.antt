-- What a player is shown: the tests that compute it.
use Rattle.std.specs.Prelude.{ℕ, ◌&&◌, ◌||◌, Bool, false, Option, Some, None, nat_lt}
use Rattle.std.specs.List.{list_any, range_with_len}
use Rattle.names.specs.declared.kinds.Layer.{Layer}
use Rattle.names.specs.declared.kinds.Layer.TheVariants.{Token as TokenLayer, Hidden, Object, Background}
use Rattle.cells.specs.Cells.{Extent, Cells, has, cells_where}
use Rattle.fog_book.specs.Exposures.{exposed_of}
use Rattle.maps.specs.Maps.{Grid, map_of}
use Rattle.tokens.specs.declared.token.Token.{Token}
use Rattle.player_view.specs.Sight.{owns, visible}
use Rattle.world.specs.Scene.{Scene}

abbrev pub set_or_none : Extent → Option Cells → Cells
set_or_none size None = cells_where size (λ x y. false)
set_or_none size (Some cells) = cells

-- what is exposed to the player of the map
unfoldable pub exposed : Scene → ℕ → Grid → Cells
exposed s p m = set_or_none m.walls.extent (exposed_of s.fog p m.name)

-- the cell (x, y) is on the map of the set, and in it
abbrev pub is_in : Cells → ℕ → ℕ → Bool
is_in cells x y = nat_lt x cells.extent.w && (nat_lt y cells.extent.h && has cells x y)

-- the token covers a cell of the set
abbrev pub touches : Token → Cells → Bool
touches t cells = list_any (λ x. list_any (λ y. is_in cells x y) (range_with_len t.cell.y t.size)) (range_with_len t.cell.x t.size)

-- by its layer: on the Token layer it has to cover a cell in sight, on Object and Background an exposed one
abbrev pub is_uncovered : Layer → Scene → ℕ → Token → Grid → Bool
is_uncovered TokenLayer s p t m = touches t (visible s p m)
is_uncovered Hidden s p t m = false
is_uncovered Object s p t m = touches t (exposed s p m)
is_uncovered Background s p t m = touches t (exposed s p m)

abbrev pub is_uncovered_on : Scene → ℕ → Token → Option Grid → Bool
is_uncovered_on s p t None = false
is_uncovered_on s p t (Some m) = m.shown && (t.visible && is_uncovered t.layer s p t m)

-- the player is shown the token
unfoldable pub is_shown : Scene → ℕ → Token → Bool
is_shown s p t = owns s p t || is_uncovered_on s p t (map_of t.map s.maps)
