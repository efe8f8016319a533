-- Maps: their cells' letters, and their walls.
use Rattle.std.specs.Prelude.{◌≡◌, ℕ, ℤ, ◌+◌, ◌*◌, not, nat_le, Bool, false, List, [], ◌∷◌, length, codes, Option, Some, None, Result, Ok}
use Rattle.std.specs.List.{list_all}
use Rattle.names.specs.Words.{wall_word}
use Rattle.names.specs.declared.kinds.WallKind.{WallKind}
use Rattle.names.specs.declared.kinds.WallKind.TheVariants.{Vbl, Mbl}
use Rattle.lattice.specs.Coordinates.{Coordinates}
use Rattle.cells.specs.Cells.{Extent}
use Rattle.cells.specs.declared.cell.Rect.{Rect}
use Rattle.topology.specs.WallFaults.{wall_fault}
use Rattle.topology.specs.declared.walls.WallFault.{WallFault}
use Rattle.topology.specs.declared.walls.WallFault.TheVariants.{OffMap, DegenerateWall, WallThere, WallLimit, Memory}
use Rattle.names.specs.Letters.{is_letter}
use Rattle.maps.specs.Maps.{has_map, map_of, shown_if, trail_if, with_letters, with_mode, with_wall_of}
use Rattle.serde_json.specs.Data.{Data}
use Rattle.json_fields.specs.Kinds.{within}
use Rattle.json_fields.specs.Objects.{◌>>=◌}
use Rattle.world.specs.Rules.{size_of}
use Rattle.world.specs.Scene.{Scene, with_grid, with_new_map}
use Rattle.campaign_json.specs.declared.faults.Rule.{Rule}
use Rattle.campaign_json.specs.declared.faults.Rule.TheVariants.{Range, Form, Twice, Cross}
use Rattle.campaign_json.specs.declared.faults.FileFault.{FileFault}
use Rattle.campaign_json.specs.declared.faults.FileFault.TheVariants.{Memory as no_memory}
use Rattle.campaign_json.specs.declared.faults.BadCampaign.{BadCampaign}
use Rattle.campaign_json.specs.declared.formats.Format.{Format}
use Rattle.campaign_json.specs.declared.formats.Format.TheVariants.{First, Second}
use Rattle.campaign_json.specs.Reading.{IsBreach, broken, needed, asked, field, item_at, under, each}
use Rattle.campaign_json.specs.Kinds.{whole, text, list, object, only, exactly, integer, boolean, tag, mode}
use Rattle.tokens.specs.declared.token.Token.{Token}
use Rattle.campaign_scene.specs.declared.map.Heading.{Heading}
use Rattle.campaign_scene.specs.Kept.{kept}

-- what stays while a map is filled: the players, the tokens, and the size of the map of that name
abbrev pub frame : List ℕ → Scene → (ℕ × List Token) × Option Extent
frame name s = (kept s, size_of name s.maps)

-- ---- letters

-- the cell in column x of row y
abbrev pub cell_rect : ℕ → ℕ → Rect
cell_rect y x = record { x = x; y = y; w = 1; h = 1 }

-- the letters stand in row y of the map, from column x on
abbrev pub lettered : List ℕ → ℕ → ℕ → Scene → List ℕ → Scene
lettered name y x s [] = s
lettered name y x s (letter ∷ letters) = lettered name y (x + 1) (with_grid name (with_letters (cell_rect y x) letter) s) letters

-- so many letters
unfoldable pub row_letters : ℕ → Data → Result (List ℕ) BadCampaign
row_letters width d = do
  letters ← text width width d
  good ← asked Form (list_all is_letter letters)
  Ok letters

-- the row y of a map that is so wide
unfoldable pub row : List ℕ → ℕ → ℕ → Scene → Data → Result Scene BadCampaign
row name width y s d = do
  letters ← row_letters width d
  Ok (lettered name y 0 s letters)

-- the letters of the map, which is of that size
unfoldable pub rows : List ℕ → Extent → Scene → Data → Result Scene BadCampaign
rows name size s d = do
  items ← field (codes "rows") (list size.h size.h) d
  under (codes "rows") (each (row name size.w) 0 s items)

-- ---- walls

abbrev pub point_from : Option ℕ → Option ℕ → Option Coordinates
point_from None y = None
point_from (Some x) None = None
point_from (Some x) (Some y) = Some (record { x = x; y = y })

-- the point of a map with these coordinates, which are half cells
abbrev pub point_on : Extent → ℤ → ℤ → Option Coordinates
point_on size x y = point_from (within 0 (2 * size.w) x) (within 0 (2 * size.h) y)

abbrev pub wall_rule : WallFault → Rule
wall_rule OffMap = Cross
wall_rule DegenerateWall = Cross
wall_rule WallThere = Twice
wall_rule WallLimit = Range
wall_rule Memory = Cross

-- the breach of the wall itself, or want of memory
abbrev pub IsWallBreach : WallFault → FileFault → Type 0
IsWallBreach OffMap found = IsBreach (record { path = []; rule = Cross }) found
IsWallBreach DegenerateWall found = IsBreach (record { path = []; rule = Cross }) found
IsWallBreach WallThere found = IsBreach (record { path = []; rule = Twice }) found
IsWallBreach WallLimit found = IsBreach (record { path = []; rule = Range }) found
IsWallBreach Memory found = found ≡ no_memory

-- no check that a new wall makes is broken
abbrev pub unbroken : Option WallFault → Result (Unit {0}) BadCampaign
unbroken None = Ok tt
unbroken (Some fault) = broken (wall_rule fault)

-- a wall of that kind more on the map of that name, between two points
unfoldable pub walled_at : List ℕ → WallKind → (ℤ × ℤ) → (ℤ × ℤ) → Scene → Result Scene BadCampaign
walled_at name kind first second s = do
  grid ← needed Cross (map_of name s.maps)
  a ← needed Cross (point_on grid.walls.extent first.0 first.1)
  b ← needed Cross (point_on grid.walls.extent second.0 second.1)
  fits ← unbroken (wall_fault grid.walls kind a b)
  Ok (with_grid name (with_wall_of kind a b) s)

-- the coordinates of a wall's ends
unfoldable pub wall_ends : Data → Result ((ℤ × ℤ) × (ℤ × ℤ)) BadCampaign
wall_ends d = do
  four ← exactly 4 d
  ax ← item_at 0 integer d
  ay ← item_at 1 integer d
  bx ← item_at 2 integer d
  by ← item_at 3 integer d
  Ok ((ax, ay), (bx, by))

-- the scene with a wall more, of a value
unfoldable pub wall : List ℕ → WallKind → Scene → Data → Result Scene BadCampaign
wall name kind s d = do
  ends ← wall_ends d
  walled_at name kind ends.0 ends.1 s

-- the walls of that kind of the map
unfoldable pub walls : List ℕ → WallKind → Scene → Data → Result Scene BadCampaign
walls name kind s d = do
  items ← field (wall_word kind) (list 0 2048) d
  under (wall_word kind) (each (λ place. wall name kind) 0 s items)

-- ---- maps

abbrev pub map_keys : Format → List (List ℕ)
map_keys First = codes "name" ∷ codes "w" ∷ codes "h" ∷ codes "mode" ∷ codes "shown" ∷ codes "rows" ∷ codes "vbl" ∷ codes "mbl" ∷ []
map_keys Second = codes "name" ∷ codes "w" ∷ codes "h" ∷ codes "mode" ∷ codes "shown" ∷ codes "trail" ∷ codes "rows" ∷ codes "vbl" ∷ codes "mbl" ∷ []

-- a name that no map has
unfoldable pub new_name : Scene → Data → Result (List ℕ) BadCampaign
new_name s d = do
  name ← tag d
  first ← asked Twice (not (has_map name s.maps))
  room ← asked Range (not (nat_le 8 (length s.maps)))
  Ok name

-- whether a map has a trail: none of the first format has one, nor says so
abbrev pub trail : Format → Data → Result Bool BadCampaign
trail First d = Ok false
trail Second d = field (codes "trail") boolean d

-- what a map says of itself before its letters and walls: its name, its size, its mode, whether it is shown, and whether it
-- has a trail
unfoldable pub heading : Format → Scene → Data → Result Heading BadCampaign
heading format s d = do
  members ← object d
  name ← field (codes "name") (new_name s) d
  w ← field (codes "w") (whole 1 96) d
  h ← field (codes "h") (whole 1 96) d
  mode ← field (codes "mode") mode d
  shown ← field (codes "shown") boolean d
  trail ← trail format d
  Ok (record { name = name; size = record { w = w; h = h }; mode = mode; shown = shown; trail = trail })

-- a new map of that heading
abbrev pub with_blank : Heading → Scene → Scene
with_blank new s = with_grid new.name (trail_if new.trail) (with_grid new.name (shown_if new.shown) (with_grid new.name (with_mode new.mode) (with_new_map new.name new.size s)))

-- a map more
unfoldable pub map : Format → Scene → Data → Result Scene BadCampaign
map format s d = do
  new ← heading format s d
  laid ← rows new.name new.size (with_blank new s) d
  veiled ← walls new.name Vbl laid d
  walled ← walls new.name Mbl veiled d
  no_others ← only (map_keys format) d
  Ok walled

-- the scene with the maps of the campaign
unfoldable pub maps : Format → Scene → Data → Result Scene BadCampaign
maps format s d = do
  items ← field (codes "maps") (list 0 8) d
  under (codes "maps") (each (λ place. map format) 0 s items)
