-- What is found on the way, token by token and run by run.
use Rattle.std.specs.Prelude.{ℕ, ◌+◌, ◌-◌, ◌&&◌, Bool, false, if◌then◌else◌, List, map, Option, Some, None}
use Rattle.std.specs.List.{range_with_len}
use Rattle.names.specs.declared.kinds.Layer.{Layer}
use Rattle.names.specs.declared.kinds.Layer.TheVariants.{Token as TokenLayer, Hidden, Object, Background}
use Rattle.cells.specs.declared.cell.Run.{Run}
use Rattle.maps.specs.Maps.{Grid}
use Rattle.sight_types.specs.declared.Sight.{Sight}
use Rattle.tokens.specs.declared.token.Token.{Token}
use Rattle.views.specs.Keys.{Letter}
use Rattle.views.specs.declared.view.MapView.{MapView}
use Rattle.player_view.specs.Sight.{is_on, named_type, owns}
use Rattle.player_view.specs.Shown.{touches}
use Rattle.player_view.specs.View.{lettered}
use Rattle.world.specs.Scene.{Scene}

-- the sight with which the token adds to what the player sees of the map
abbrev pub sight_on : Scene → ℕ → Grid → Token → Option Sight
sight_on s p m t = if is_on m.name t && (owns s p t && m.shown) then named_type s.sights t.sight else None

-- the letters of the run's cells
abbrev pub run_letters : Grid → Run → List Letter
run_letters m run = map (lettered m run.y) (range_with_len run.x0 (run.x1 + 1 - run.x0))

-- the token covers a cell of the map's set that counts for its layer
abbrev pub is_open_by : Layer → Token → MapView → Bool
is_open_by TokenLayer t view = touches t view.seen
is_open_by Hidden t view = false
is_open_by Object t view = touches t view.exposed
is_open_by Background t view = touches t view.exposed

abbrev pub is_open_in : Token → Option MapView → Bool
is_open_in t None = false
is_open_in t (Some view) = is_open_by t.layer t view
