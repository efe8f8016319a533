-- What a command that breaks no rule may rely on.
use Rattle.std.specs.Prelude.{◌≡◌, ℕ, true, false, List, None, Some, ℤ}
use Rattle.std.specs.List.{list_all}
use Rattle.names.specs.declared.kinds.PropClass.{PropClass}
use Rattle.names.specs.declared.token_id.TokenId.{TokenId}
use Rattle.cells.specs.Cells.{Extent}
use Rattle.maps.specs.Maps.{Grid, map_of}
use Rattle.tokens.specs.declared.token.Token.{Token}
use Rattle.tokens.specs.Properties.{is_full_for}
use Rattle.tokens.specs.Tokens.{token_of, props_of}
use Rattle.command_json.specs.declared.command.Command.{Command}
use Rattle.command_json.specs.Limits.{IsCommand}
use Rattle.world.specs.Scene.{Scene}
use Rattle.world.specs.Rules.{size_of, fits}
use Rattle.player_view.specs.Asked.{asked_of}
use Rattle.command_rules.specs.Places.{Numbers, fits_at, rect_fits, point_fits}
use Rattle.command_rules.specs.Rules.{rule_of}
use Rattle.command_effects.specs.Effects.{own_token}

-- the command keeps to its limits and breaks no rule, in a campaign of so many seats, by a seat that used these tags
pub record IsAllowed (s : Scene) (seat : ℕ) (c : Command) : Type 0 where
  pub seats : ℕ
  pub tags : List (List ℕ)
  pub rule : rule_of (asked_of seats s seat) seat tags c ≡ None
  pub form : IsCommand c

-- the seat may act on the token of the id, which stands on a map, and its square fits there at each cell of the path
pub record MayMove (s : Scene) (seat : ℕ) (id : TokenId) (path : List (ℤ × ℤ)) : Type 0 where
  pub token : Token
  pub size : Extent
  pub found : own_token s seat id ≡ Some token
  pub there : size_of token.map s.maps ≡ Some size
  pub stands : fits size token.cell token.size ≡ true
  pub fits : list_all (fits_at size token.size) path ≡ true

-- the square of that side at the place is on the map of that name
pub record MayStand (s : Scene) (map : List ℕ) (side : ℕ) (place : ℤ × ℤ) : Type 0 where
  pub size : Extent
  pub there : size_of map s.maps ≡ Some size
  pub fits : fits_at size side place ≡ true

-- the token of the id is there, and its square is on the map at the place
pub record MayPlace (s : Scene) (id : TokenId) (map : List ℕ) (place : ℤ × ℤ) : Type 0 where
  pub token : Token
  pub found : token_of id s.tokens ≡ Some token
  pub stands : MayStand s map token.size place

-- a token of the id is there, and has room for the name among its properties of the class
pub record MaySet (s : Scene) (id : TokenId) (class : PropClass) (name : List ℕ) : Type 0 where
  pub token : Token
  pub found : token_of id s.tokens ≡ Some token
  pub room : is_full_for name (props_of class token) ≡ false

-- the rectangle is on the map of that name
pub record MayFill (s : Scene) (map : List ℕ) (rect : Numbers) : Type 0 where
  pub size : Extent
  pub there : size_of map s.maps ≡ Some size
  pub fits : rect_fits size rect ≡ true

-- the points are on the map of that name, the grid
pub record MayWall (s : Scene) (map : List ℕ) (a b : ℤ × ℤ) : Type 0 where
  pub grid : Grid
  pub there : map_of map s.maps ≡ Some grid
  pub first : point_fits grid.walls.extent a ≡ true
  pub second : point_fits grid.walls.extent b ≡ true
