-- What the campaign text takes of a world: what its types keep, and its keys, names and sizes.
use Rattle.std.specs.Prelude.{◌≡◌, ◌≤◌, ◌<◌, ◌^◌, ℕ, ℤ, ◌&&◌, nat_le, Bool, true, false, List, [], ◌∷◌, length, map}
use Rattle.std.specs.List.{AllByRecursion, IsDistinct}
use Rattle.std.specs.Str.{bytes_eq}
use Rattle.std.specs.FinMap.Entries.{is_sorted}
use Rattle.hex.specs.Hex.{IsBytes}
use Rattle.names.specs.Tag.{is_tag, tag_cmp}
use Rattle.names.specs.TokenId.{IsTokenId, id_cmp}
use Rattle.cells.specs.Cells.{Extent, Cells, IsToldByCells}
use Rattle.sight_types.specs.Ranges.{are_ranges}
use Rattle.sight_types.specs.declared.Sight.{Sight}
use Rattle.topology.specs.Order.{point_before, wall_before}
use Rattle.topology.specs.WallLists.{on_map_test}
use Rattle.topology.specs.declared.wall.Wall.{Wall}
use Rattle.maps.specs.Maps.{Grid, IsMap}
use Rattle.seats.specs.Book.{Book, drawn_limit, most_tags}
use Rattle.tokens.specs.declared.token.Token.{Token}
use Rattle.world.specs.Rules.{belongs}
use Rattle.world.specs.Scene.{Scene}
use Rattle.world.specs.World.{World, IsWorld, is_used}
use Rattle.campaign_json.specs.declared.formats.Format.{Format}
use Rattle.campaign_json.specs.declared.formats.Format.TheVariants.{First, Second}
use Rattle.campaign_scene.specs.Types.{is_radius_in}
use Rattle.campaign_writing.specs.Kept.{IsName, IsTag, AreProperties}
use Rattle.campaign_writing.specs.Written.{is_written_text}
use Rattle.campaign_writing.proofs.Laid.{laid}

-- ---- types

-- a name that is a tag, with numbers that a type of that kind may have
abbrev pub IsLight : Format → List ℕ × ℤ → Type 0
IsLight format type = (is_tag type.0 ≡ true) × (is_radius_in format type.1 ≡ true)

abbrev pub IsSight : List ℕ × Sight → Type 0
IsSight type = (is_tag type.0 ≡ true) × (are_ranges type.1.range type.1.night type.1.mult ≡ true)

-- ---- maps

-- a wall on a map of that size, from its lesser end to the other
pub record IsWallOn (size : Extent) (w : Wall) : Type 0 where
  pub first : on_map_test size w.first ≡ true
  pub second : on_map_test size w.second ≡ true
  pub directed : point_before w.first w.second ≡ true

-- each wall stands before all later ones
abbrev pub AreInOrder : List Wall → Type 0
AreInOrder [] = Unit {0}
AreInOrder (w ∷ ws) = AllByRecursion (λ other. wall_before w other ≡ true) ws × AreInOrder ws

-- what the campaign text takes of walls
pub record AreWallsOn (size : Extent) (all : List Wall) : Type 0 where
  pub each : AllByRecursion (IsWallOn size) all
  pub few : length all ≤ 2048
  pub ordered : AreInOrder all

-- a trail of a map of the format
abbrev pub IsTrailOf : Format → Bool → Type 0
IsTrailOf First on = on ≡ false
IsTrailOf Second on = Unit {0}

-- and of a map
pub record IsMapWith (format : Format) (m : Grid) : Type 0 where
  pub name : is_tag m.name ≡ true
  pub map : IsMap m
  pub trail : IsTrailOf format m.trail
  pub vbl : AreWallsOn m.walls.extent m.walls.vbl
  pub mbl : AreWallsOn m.walls.extent m.walls.mbl

-- ---- tokens

-- what the campaign text takes of a token, in a scene that it belongs to
pub record IsTokenOf (books : List Book) (s : Scene) (t : Token) : Type 0 where
  pub id : IsTokenId t.id
  pub used : is_used books t.id ≡ true
  pub name : (nat_le 1 (length t.name) && nat_le (length t.name) 40) ≡ true
  pub map : is_tag t.map ≡ true
  pub side : (nat_le 1 t.size && nat_le t.size 4) ≡ true
  pub place : (nat_le t.cell.x 95 && nat_le t.cell.y 95) ≡ true
  pub belongs : belongs s t ≡ true
  pub owners : t.owners < 2 ^ 33
  pub sight : IsName t.sight
  pub light : IsName t.light
  pub public : AreProperties t.public
  pub own : AreProperties t.own
  pub secret : AreProperties t.secret

-- ---- seats

-- a tag, with a text of a macro
abbrev pub IsMacro : List ℕ × List ℕ → Type 0
IsMacro m = IsTag m.0 × (is_written_text m.1 ≡ true)

-- what the campaign text takes of a book
pub record IsBookOf (b : Book) : Type 0 where
  pub key : (nat_le 1 (length b.key) && nat_le (length b.key) 64) ≡ true
  pub seed : length b.seed ≡ 32
  pub bytes : IsBytes b.seed
  pub drawn : b.drawn < drawn_limit
  pub tags : AllByRecursion IsTag b.tags
  pub few : length b.tags ≤ most_tags b.seat
  pub distinct : IsDistinct bytes_eq b.tags
  pub macros : AllByRecursion IsMacro b.macros
  pub few_macros : length b.macros ≤ 32
  pub macros_ordered : is_sorted tag_cmp b.macros ≡ true

-- ---- worlds

-- all that the campaign text of a format takes of a world
pub record IsWritable (format : Format) (w : World) : Type 0 where
  pub world : IsWorld w
  pub lights : AllByRecursion (IsLight format) w.scene.lights
  pub few_lights : length w.scene.lights ≤ 32
  pub lights_ordered : is_sorted tag_cmp w.scene.lights ≡ true
  pub sights : AllByRecursion IsSight w.scene.sights
  pub few_sights : length w.scene.sights ≤ 32
  pub sights_ordered : is_sorted tag_cmp w.scene.sights ≡ true
  pub maps : AllByRecursion (IsMapWith format) w.scene.maps
  pub few_maps : length w.scene.maps ≤ 8
  pub maps_ordered : is_sorted tag_cmp (map (λ m. (m.name, m)) w.scene.maps) ≡ true
  pub books : AllByRecursion IsBookOf w.books
  pub tokens : AllByRecursion (IsTokenOf w.books w.scene) w.scene.tokens
  pub tokens_ordered : is_sorted id_cmp (map (λ t. (t.id, t)) w.scene.tokens) ≡ true
  -- what is exposed, in the order of maps and then of seats
  pub cells : ℕ → Grid → Cells
  pub laid_out : w.scene.fog.sets ≡ laid w.scene.fog.players cells w.scene.maps
  pub sized : (seat : ℕ) (m : Grid) → let c : Cells = cells seat m in c.extent ≡ m.walls.extent
  pub told : (seat : ℕ) (m : Grid) → IsToldByCells (cells seat m)
