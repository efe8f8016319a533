-- What an accepted command of the game master does to the scene.
use Rattle.std.specs.Prelude.{ℕ, Bool, true, false, List, ℤ}
use Rattle.names.specs.declared.kinds.PropClass.TheVariants.{Secret as SecretClass}
use Rattle.fog_book.specs.Exposures.{with_change}
use Rattle.fog_book.specs.Rects.{with_rect}
use Rattle.initiative.specs.Fights.{no_fight, passed}
use Rattle.maps.specs.Maps.{with_mode, shown_if as map_shown_if, trail_if, with_letters, with_wall_of, without_wall_of}
use Rattle.sight_types.specs.declared.Sight.{Sight as SightType}
use Rattle.type_table.specs.Types.{with_type}
use Rattle.tokens.specs.Tokens.{placed, on_layer, shown_if, owned_by, with_sight, with_prop}
use Rattle.world.specs.Scene.{Scene, with_token, with_grid, with_new_map}
use Rattle.command_json.specs.declared.command.Command.{Command}
use Rattle.command_json.specs.declared.command.Command.TheVariants.{Map, Mode, Show, Trail, Terrain, Wall, Unwall, Lighttype, Sighttype, Token, Own, Layer, Visible, Sight, Place, Secret, Expose, Hide, Turn, Endfight}
use Rattle.command_rules.specs.Places.{Numbers, coordinate, cell_at, rect_at, point_at}
use Rattle.command_effects.specs.Making.{new_token, with_new}

-- ---- parts of a scene

-- the rectangle is exposed to the player, or hidden from it
abbrev pub with_fog : ℕ → List ℕ → Numbers → Bool → Scene → Scene
with_fog seat map numbers on s = record s { fog = with_change s.fog seat map (λ cells. with_rect cells (rect_at numbers) on) }

abbrev pub sight_by : ℤ → ℤ → ℤ → SightType
sight_by range night mult = record { range = coordinate range; night = coordinate night; mult = coordinate mult }

-- ---- all commands

-- the scene after an accepted command of the game master, whose seat this is
unfoldable pub gm_scene_by : ℕ → Scene → Command → Scene
gm_scene_by seat s (Map name w h) = with_new_map name (record { w = coordinate w; h = coordinate h }) s
gm_scene_by seat s (Mode map mode) = with_grid map (with_mode mode) s
gm_scene_by seat s (Show map on) = with_grid map (map_shown_if on) s
gm_scene_by seat s (Trail map on) = with_grid map (trail_if on) s
gm_scene_by seat s (Terrain map rect kind) = with_grid map (with_letters (rect_at rect) kind) s
gm_scene_by seat s (Wall map kind a b) = with_grid map (with_wall_of kind (point_at a) (point_at b)) s
gm_scene_by seat s (Unwall map kind a b) = with_grid map (without_wall_of kind (point_at a) (point_at b)) s
gm_scene_by seat s (Lighttype name radius) = record s { lights = with_type name radius s.lights }
gm_scene_by seat s (Sighttype name range night mult) = record s { sights = with_type name (sight_by range night mult) s.sights }
gm_scene_by seat s (Token tag map cell name size layer) = with_new (new_token seat tag map cell name (coordinate size) layer 0) s
gm_scene_by seat s (Own token owner on) = with_token token (owned_by owner on) s
gm_scene_by seat s (Layer token layer) = with_token token (on_layer layer) s
gm_scene_by seat s (Visible token on) = with_token token (shown_if on) s
gm_scene_by seat s (Sight token sight) = with_token token (with_sight sight) s
gm_scene_by seat s (Place token map cell) = with_token token (placed map (cell_at cell)) s
gm_scene_by seat s (Secret token name value) = with_token token (with_prop SecretClass name value) s
gm_scene_by seat s (Expose player map rect) = with_fog player map rect true s
gm_scene_by seat s (Hide player map rect) = with_fog player map rect false s
gm_scene_by seat s Turn = record s { fight = passed s.fight }
gm_scene_by seat s Endfight = record s { fight = no_fight }
gm_scene_by seat s c = s
