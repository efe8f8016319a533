-- The parts of a scene, as the campaign text has them: each in the order in which the table has it, keys in byte order.
use Rattle.std.specs.Prelude.{ℕ, ℤ, Bool, true, false, List, [], ◌∷◌, map, codes, Option, Some, None}
use Rattle.std.specs.List.{filter, range_with_len}
use Rattle.names.specs.Words.{mode_word, layer_word}
use Rattle.names.specs.TokenId.{id_text}
use Rattle.cells.specs.Cells.{Cells}
use Rattle.cells.specs.Runs.{runs_of}
use Rattle.cells.specs.declared.cell.Run.{Run}
use Rattle.fog_book.specs.Exposures.{exposed_of}
use Rattle.maps.specs.Maps.{Grid, letter_at}
use Rattle.sight_types.specs.declared.Sight.{Sight}
use Rattle.tokens.specs.Owners.{seats_of}
use Rattle.tokens.specs.Properties.{Property}
use Rattle.tokens.specs.declared.token.Token.{Token}
use Rattle.topology.specs.declared.wall.Wall.{Wall}
use Rattle.serde_json.specs.Data.{Data, boolean, string, object, Members, no_members, member}
use Rattle.world.specs.Scene.{Scene}
use Rattle.campaign_json.specs.declared.formats.Format.{Format}
use Rattle.campaign_json.specs.declared.formats.Format.TheVariants.{First, Second}
use Rattle.campaign_writing.specs.Trees.{whole, integer, wholes, list, name_or_null, named, with_member}

-- ---- types

abbrev pub sight_tree : Sight → Data
sight_tree sight = wholes (sight.range ∷ sight.night ∷ sight.mult ∷ [])

abbrev pub lights_tree : List (List ℕ × ℤ) → Data
lights_tree lights = object (named integer lights)

abbrev pub sights_tree : List (List ℕ × Sight) → Data
sights_tree sights = object (named sight_tree sights)

-- ---- maps

-- the letters of row y, from left to right
abbrev pub row_letters : Grid → ℕ → List ℕ
row_letters m y = map (λ x. letter_at m x y) (range_with_len 0 m.walls.extent.w)

abbrev pub rows_tree : Grid → Data
rows_tree m = list (map (λ y. string (row_letters m y)) (range_with_len 0 m.walls.extent.h))

-- the lesser end first
abbrev pub wall_tree : Wall → Data
wall_tree wall = wholes (wall.first.x ∷ wall.first.y ∷ wall.second.x ∷ wall.second.y ∷ [])

abbrev pub walls_tree : List Wall → Data
walls_tree walls = list (map wall_tree walls)

-- whether a map has a trail, of which the first format has no word: behind it stand the members of later keys
abbrev pub trail_member : Format → Bool → Members → Members
trail_member First on later = later
trail_member Second on later = member (codes "trail") (boolean on) later

-- the same, put in
abbrev pub with_trail : Format → Bool → Members → Members
with_trail First on members = members
with_trail Second on members = with_member (codes "trail") (boolean on) members

unfoldable pub map_tree : Format → Grid → Data
map_tree format m = object
    (member (codes "h") (whole m.walls.extent.h)
    (member (codes "mbl") (walls_tree m.walls.mbl)
    (member (codes "mode") (string (mode_word m.mode))
    (member (codes "name") (string m.name)
    (member (codes "rows") (rows_tree m)
    (member (codes "shown") (boolean m.shown)
    (trail_member format m.trail
    (member (codes "vbl") (walls_tree m.walls.vbl)
    (member (codes "w") (whole m.walls.extent.w) no_members)))))))))

-- its members as they are put in, one after the other
unfoldable pub map_members : Format → Grid → Members
map_members format m =
    with_member (codes "w") (whole m.walls.extent.w)
    (with_member (codes "vbl") (walls_tree m.walls.vbl)
    (with_trail format m.trail
    (with_member (codes "shown") (boolean m.shown)
    (with_member (codes "rows") (rows_tree m)
    (with_member (codes "name") (string m.name)
    (with_member (codes "mode") (string (mode_word m.mode))
    (with_member (codes "mbl") (walls_tree m.walls.mbl)
    (with_member (codes "h") (whole m.walls.extent.h) no_members))))))))

abbrev pub maps_tree : Format → List Grid → Data
maps_tree format maps = list (map (map_tree format) maps)

-- ---- tokens

abbrev pub property_tree : Property → Data
property_tree property = list (string property.0 ∷ string property.1 ∷ [])

abbrev pub properties_tree : List Property → Data
properties_tree properties = list (map property_tree properties)

-- the owners' numbers, ascending
unfoldable pub owners_tree : ℕ → Data
owners_tree owners = wholes (seats_of owners)

unfoldable pub token_tree : Token → Data
token_tree t = object
    (member (codes "cell") (wholes (t.cell.x ∷ t.cell.y ∷ []))
    (member (codes "id") (string (id_text t.id))
    (member (codes "layer") (string (layer_word t.layer))
    (member (codes "light") (name_or_null t.light)
    (member (codes "map") (string t.map)
    (member (codes "name") (string t.name)
    (member (codes "own") (properties_tree t.own)
    (member (codes "owners") (owners_tree t.owners)
    (member (codes "props") (properties_tree t.public)
    (member (codes "secret") (properties_tree t.secret)
    (member (codes "sight") (name_or_null t.sight)
    (member (codes "size") (whole t.size)
    (member (codes "visible") (boolean t.visible) no_members)))))))))))))

-- its members as they are put in, one after the other
unfoldable pub token_members : Token → Members
token_members t =
    with_member (codes "visible") (boolean t.visible)
    (with_member (codes "size") (whole t.size)
    (with_member (codes "sight") (name_or_null t.sight)
    (with_member (codes "secret") (properties_tree t.secret)
    (with_member (codes "props") (properties_tree t.public)
    (with_member (codes "owners") (owners_tree t.owners)
    (with_member (codes "own") (properties_tree t.own)
    (with_member (codes "name") (string t.name)
    (with_member (codes "map") (string t.map)
    (with_member (codes "light") (name_or_null t.light)
    (with_member (codes "layer") (string (layer_word t.layer))
    (with_member (codes "id") (string (id_text t.id))
    (with_member (codes "cell") (wholes (t.cell.x ∷ t.cell.y ∷ [])) no_members))))))))))))

abbrev pub tokens_tree : List Token → Data
tokens_tree tokens = list (map token_tree tokens)

-- ---- what is exposed

abbrev pub runs_in : Option Cells → List Run
runs_in None = []
runs_in (Some cells) = runs_of cells

-- the runs of the cells of the map that are exposed to the seat
abbrev pub runs_at : Scene → ℕ → List ℕ → List Run
runs_at s seat name = runs_in (exposed_of s.fog seat name)

abbrev pub run_tree : Run → Data
run_tree run = wholes (run.y ∷ run.x0 ∷ run.x1 ∷ [])

abbrev pub runs_tree : List Run → Data
runs_tree runs = list (map run_tree runs)

abbrev pub some_runs : List ℕ × List Run → Bool
some_runs (name, []) = false
some_runs (name, run ∷ runs) = true

-- the maps of which cells are exposed to the seat, each with its runs
abbrev pub exposed_maps : Scene → ℕ → List (List ℕ × List Run)
exposed_maps s seat = filter some_runs (map (λ m. (m.name, runs_at s seat m.name)) s.maps)

abbrev pub fog_tree : Scene → ℕ → Data
fog_tree s seat = object (named runs_tree (exposed_maps s seat))
