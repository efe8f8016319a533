-- What the types of a world's parts keep, as the writer learns it while it goes through them.
use Rattle.std.specs.Prelude.{◌≡◌, ◌≤◌, ◌<◌, ◌^◌, ℕ, ℤ, true, List, length, Option, Some, None}
use Rattle.std.specs.List.{AllByRecursion, IsDistinct}
use Rattle.std.specs.Map.{keys_of}
use Rattle.std.specs.Str.{bytes_eq}
use Rattle.hex.specs.Hex.{IsBytes}
use Rattle.names.specs.Tag.{is_tag}
use Rattle.names.specs.TokenId.{IsTokenId}
use Rattle.lights.specs.Lights.{AreLights}
use Rattle.sight_types.specs.Sights.{AreSightTypes}
use Rattle.sight_types.specs.declared.Sight.{Sight}
use Rattle.topology.specs.WallLists.{AreWalls}
use Rattle.maps.specs.Maps.{Grid, IsMap, AreMaps}
use Rattle.seats.specs.Book.{Book, drawn_limit, most_tags}
use Rattle.tokens.specs.Properties.{Property, value_limit}
use Rattle.tokens.specs.Tokens.{in_order}
use Rattle.tokens.specs.declared.token.Token.{Token}
use Rattle.type_table.specs.Types.{AreTypes}
use Rattle.world.specs.Rules.{IsScene}
use Rattle.world.specs.World.{World, IsWorld}

abbrev pub IsTag : List ℕ → Type 0
IsTag bytes = is_tag bytes ≡ true

-- the names of these are tags
abbrev pub AreNamed : {V : Type 0} → List (List ℕ × V) → Type 0
AreNamed entries = AllByRecursion (λ entry. IsTag entry.0) entries

-- ---- types

pub record AreKeptLights (lights : List (List ℕ × ℤ)) : Type 0 where
  pub names : AreNamed lights
  pub table : AreLights lights

pub record AreKeptSights (sights : List (List ℕ × Sight)) : Type 0 where
  pub names : AreNamed sights
  pub table : AreSightTypes sights

-- ---- maps

pub record IsKeptMap (m : Grid) : Type 0 where
  pub name : IsTag m.name
  pub map : IsMap m
  pub vbl : AreWalls m.walls.extent m.walls.vbl
  pub mbl : AreWalls m.walls.extent m.walls.mbl

pub record AreKeptMaps (maps : List Grid) : Type 0 where
  pub each : AllByRecursion IsKeptMap maps
  pub table : AreMaps maps

-- ---- tokens

-- a tag with a short value
abbrev pub IsProperty : Property → Type 0
IsProperty p = IsTag p.0 × (length p.1 ≤ value_limit)

pub record AreProperties (all : List Property) : Type 0 where
  pub each : AllByRecursion IsProperty all
  pub few : length all ≤ 64
  pub distinct : IsDistinct bytes_eq (keys_of all)

-- a name that is a tag, or none
abbrev pub IsName : Option (List ℕ) → Type 0
IsName None = Unit {0}
IsName (Some name) = IsTag name

pub record IsKeptToken (t : Token) : Type 0 where
  pub id : IsTokenId t.id
  pub map : IsTag t.map
  pub owners : t.owners < 2 ^ 33
  pub sight : IsName t.sight
  pub light : IsName t.light
  pub public : AreProperties t.public
  pub own : AreProperties t.own
  pub secret : AreProperties t.secret

pub record AreKeptTokens (tokens : List Token) : Type 0 where
  pub each : AllByRecursion IsKeptToken tokens
  pub ordered : in_order tokens ≡ true

-- ---- seats

pub record AreKeptTags (seat : ℕ) (tags : List (List ℕ)) : Type 0 where
  pub each : AllByRecursion IsTag tags
  pub few : length tags ≤ most_tags seat
  pub distinct : IsDistinct bytes_eq tags

pub record AreKeptMacros (macros : List (List ℕ × List ℕ)) : Type 0 where
  pub names : AreNamed macros
  pub table : AreTypes macros

pub record IsKeptBook (b : Book) : Type 0 where
  pub seed : length b.seed ≡ 32
  pub bytes : IsBytes b.seed
  pub drawn : b.drawn < drawn_limit
  pub tags : AreKeptTags b.seat b.tags
  pub macros : AreKeptMacros b.macros

-- ---- worlds

pub record IsKept (w : World) : Type 0 where
  pub world : IsWorld w
  pub scene : IsScene w.scene
  pub lights : AreKeptLights w.scene.lights
  pub sights : AreKeptSights w.scene.sights
  pub maps : AreKeptMaps w.scene.maps
  pub tokens : AreKeptTokens w.scene.tokens
  pub books : AllByRecursion IsKeptBook w.books
