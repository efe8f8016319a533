-- What tokens and players see and what players are shown, in words.
use Rattle.std.specs.Prelude.{◌≡◌, ◌≢◌, ◌<◌, ◌⊎◌, ℕ, true, List, Some, Any}
use Rattle.names.specs.declared.kinds.Layer.{Layer}
use Rattle.names.specs.declared.kinds.Layer.TheVariants.{Token as TokenLayer, Hidden, Object, Background}
use Rattle.cells.specs.Cells.{Extent, Cells, has}
use Rattle.maps.specs.Maps.{Grid, map_of}
use Rattle.sight_types.specs.declared.Sight.{Sight}
use Rattle.tokens.specs.declared.token.Token.{Token}
use Rattle.tokens.specs.Owners.{has_owner}
use Rattle.tokens.specs.Tokens.{Covers, eye_of}
use Rattle.vision.specs.Seen.{IsSeen}
use Rattle.player_view.specs.Sight.{named_type, lamps_on}
use Rattle.player_view.specs.Shown.{exposed}
use Rattle.world.specs.Scene.{Scene}

-- the map of that name is shown to players
pub record IsShownMap (s : Scene) (name : List ℕ) : Type 0 where
  pub map : Grid
  pub there : map_of name s.maps ≡ Some map
  pub shown : map.shown ≡ true

-- the token, which is on the map, sees the cell (x, y) of it: the map is shown, the token has a type of sight, and a token
-- with that sight sees the cell in the map's mode, by the walls and lamps of the map
pub record Sees (s : Scene) (m : Grid) (t : Token) (x y : ℕ) : Type 0 where
  pub shown : m.shown ≡ true
  pub sight : Sight
  pub has_sight : named_type s.sights t.sight ≡ Some sight
  pub sees : IsSeen m.mode m.walls (lamps_on s m.name) sight (eye_of t) x y

-- the player owns the token: it is one of its owners, the token isn't hidden, and its map is shown
pub record Owns (s : Scene) (p : ℕ) (t : Token) : Type 0 where
  pub owner : has_owner t.owners p ≡ true
  pub layer : t.layer ≢ Hidden
  pub map : IsShownMap s t.map

-- a token that the player owns stands on the map and sees the cell (x, y)
abbrev pub IsVisible : Scene → ℕ → Grid → ℕ → ℕ → Type 0
IsVisible s p m x y = Any (λ t. (m.name ≡ t.map) × Owns s p t × Sees s m t x y) s.tokens

-- the token covers a cell of a map of that size at which P holds
pub record Touches (size : Extent) (P : ℕ → ℕ → Type 0) (t : Token) : Type 0 where
  pub x : ℕ
  pub y : ℕ
  pub covers : Covers t x y
  pub column : x < size.w
  pub row : y < size.h
  pub holds : P x y

-- the token covers a cell of the set
abbrev pub TouchesSet : Cells → Token → Type 0
TouchesSet cells t = Touches cells.extent (λ x y. has cells x y ≡ true) t

-- a token of the layer is uncovered for the player on its map: on the Token layer by a cell in sight, on the layers
-- Object and Background by an exposed cell
abbrev pub IsUncovered : Layer → Scene → ℕ → Grid → Token → Type 0
IsUncovered TokenLayer s p m t = Touches m.walls.extent (IsVisible s p m) t
IsUncovered Hidden s p m t = ⊥
IsUncovered Object s p m t = TouchesSet (exposed s p m) t
IsUncovered Background s p m t = TouchesSet (exposed s p m) t

-- the token has the visible flag and is uncovered on its map, which is shown
pub record IsInOpen (s : Scene) (p : ℕ) (t : Token) : Type 0 where
  pub map : Grid
  pub there : map_of t.map s.maps ≡ Some map
  pub shown : map.shown ≡ true
  pub visible : t.visible ≡ true
  pub uncovered : IsUncovered t.layer s p map t

-- the player is shown the token: it owns it, or the token is in the open
abbrev pub IsShown : Scene → ℕ → Token → Type 0
IsShown s p t = Owns s p t ⊎ IsInOpen s p t
