-- What a player's view has, in words.
use Rattle.std.specs.Prelude.{ℕ, ◌≡◌, ◌<◌, ◌↔◌, false, true, List, Some, None, All, Any, is_some}
use Rattle.names.specs.declared.token_id.TokenId.{TokenId}
use Rattle.cells.specs.Cells.{has}
use Rattle.maps.specs.Maps.{Grid, map_of}
use Rattle.tokens.specs.declared.token.Token.{Token}
use Rattle.tokens.specs.Tokens.{token_of}
use Rattle.views.specs.declared.view.MapView.{MapView}
use Rattle.views.specs.declared.view.TokenView.{TokenView}
use Rattle.views.specs.declared.view.View.{View}
use Rattle.initiative.specs.declared.entry.Entry.{Entry}
use Rattle.player_view.specs.Fights.{entry_text, list_in}
use Rattle.player_view.specs.Relations.{IsShownMap, IsVisible, IsShown, Owns}
use Rattle.world.specs.Scene.{Scene}

-- of the map, just those cells are in sight that the player's tokens see
abbrev pub HasSight : Scene → ℕ → MapView → Type 0
HasSight s q m = (g : Grid) → map_of m.name s.maps ≡ Some g → (x y : ℕ) → x < g.walls.extent.w → y < g.walls.extent.h → (has m.seen x y ≡ true) ↔ IsVisible s q g x y

-- what only owners see of the token is there exactly where the player owns it
abbrev pub HasOwned : Scene → ℕ → TokenView → Type 0
HasOwned s q t = (token : Token) → token_of t.id s.tokens ≡ Some token → (is_some t.owned ≡ true) ↔ Owns s q token

-- the entry is in the fight's list, and a token of its id is shown to the player
abbrev pub IsShownEntry : Scene → ℕ → Entry → Type 0
IsShownEntry s q e = Any (λ f. f ≡ e) s.fight.list × Any (λ t. (t.id ≡ e.id) × IsShown s q t) s.tokens

-- the view v of the scene is a player's:
-- it has a token of an id exactly where one of that id is shown to the player,
-- a map of a name exactly where that map is shown to players,
-- of a map just those cells in sight that the player's tokens see,
-- what only owners see of a token exactly where the player owns it,
-- of a fight just the entries of tokens that are shown to the player,
-- and nothing that is the game master's alone
pub record IsTold (s : Scene) (q : ℕ) (v : View) : Type 0 where
  pub player : v.gm ≡ false
  pub tokens : (id : TokenId) → Any (λ t. t.id ≡ id) v.tokens ↔ Any (λ t. (t.id ≡ id) × IsShown s q t) s.tokens
  pub maps : (name : List ℕ) → Any (λ m. m.name ≡ name) v.maps ↔ IsShownMap s name
  pub seen : All (HasSight s q) v.maps
  pub owned : All (HasOwned s q) v.tokens
  pub fight : (e : Entry) → Any (λ x. x ≡ entry_text e) (list_in v.fight) ↔ IsShownEntry s q e
  pub no_whole : All (λ t. t.whole ≡ None) v.tokens
  pub no_flag : All (λ m. m.shown ≡ None) v.maps
