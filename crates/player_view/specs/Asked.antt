-- What the rules of a seat's commands ask, of a scene and of a view.
use Rattle.std.specs.Prelude.{ℕ, ◌&&◌, Bool, if◌then◌else◌, List, Option, Some, None, option_map, is_some}
use Rattle.std.specs.Str.{bytes_eq}
use Rattle.std.specs.List.{find, list_any}
use Rattle.names.specs.declared.token_id.TokenId.{TokenId}
use Rattle.cells.specs.Cells.{Extent, Cells}
use Rattle.cells.specs.declared.cell.Cell.{Cell}
use Rattle.maps.specs.Maps.{Grid, has_name}
use Rattle.tokens.specs.declared.token.Token.{Token}
use Rattle.tokens.specs.Tokens.{has_id}
use Rattle.tokens.specs.Properties.{Property}
use Rattle.names.specs.TokenId.{id_eq}
use Rattle.initiative.specs.Fights.{is_listed}
use Rattle.views.specs.declared.view.View.{View}
use Rattle.views.specs.declared.view.MapView.{MapView}
use Rattle.views.specs.declared.view.TokenView.{TokenView}
use Rattle.readable.specs.Table.{Table}
pub use Rattle.player_view.specs.Readables.{props_in}
pub use Rattle.player_view.specs.Fights.{list_in}
use Rattle.player_view.specs.Readables.{readable_of, readable_by_view}
use Rattle.player_view.specs.View.{is_gm, acts_on, has_map, exposed_to}
use Rattle.world.specs.Scene.{Scene}

-- a token that the seat may act on
pub record Mine : Type 0 where
  pub map : List ℕ
  pub cell : Cell
  pub size : ℕ
  pub public : List Property
  pub own : List Property

-- a map that the seat is shown
pub record Known : Type 0 where
  pub size : Extent
  pub exposed : Cells

-- one field for each kind of question
pub record Asked : Type 0 where
  -- how many seats there are
  pub seats : ℕ
  -- the token of that id that the seat may act on
  pub mine : TokenId → Option Mine
  -- whether the token of that id, where the seat may act on it, has an entry in the fight
  pub listed : TokenId → Bool
  -- the map of that name that the seat is shown
  pub known : List ℕ → Option Known
  -- whether there is a light type of that name
  pub has_light : List ℕ → Bool
  -- what the seat's macros can read, and the tokens that they may change
  pub readable : Table
  -- the whole scene, for the game master; no view answers it
  pub whole : Option Scene

-- ---- a scene answers

abbrev pub mine_of : Token → Mine
mine_of t = record { map = t.map; cell = t.cell; size = t.size; public = t.public; own = t.own }

abbrev pub known_of : Scene → ℕ → Grid → Known
known_of s q m = record { size = m.walls.extent; exposed = exposed_to s q m }

unfoldable pub asked_of : ℕ → Scene → ℕ → Asked
asked_of seats s q = record {
  seats = seats;
  mine = λ id. option_map mine_of (find (λ t. has_id id t && acts_on s q t) s.tokens);
  listed = λ id. list_any (λ t. has_id id t && acts_on s q t) s.tokens && is_listed id s.fight.list;
  known = λ name. option_map (known_of s q) (find (λ m. has_map q m && has_name name m) s.maps);
  has_light = λ name. list_any (λ light. bytes_eq name light.0) s.lights;
  readable = readable_of seats s q;
  whole = if is_gm q then Some s else None;
}

-- ---- a view answers

abbrev pub mine_in : TokenView → Mine
mine_in t = record { map = t.map; cell = t.cell; size = t.size; public = t.props; own = props_in t.owned }

abbrev pub known_in : MapView → Known
known_in m = record { size = m.size; exposed = m.exposed }

unfoldable pub asked_of_view : ℕ → View → Asked
asked_of_view seats v = record {
  seats = seats;
  mine = λ id. option_map mine_in (find (λ t. id_eq t.id id && is_some t.owned) v.tokens);
  listed = λ id. list_any (λ t. id_eq t.id id && is_some t.owned) v.tokens && list_any (λ e. id_eq e.0 id) (list_in v.fight);
  known = λ name. option_map known_in (find (λ m. bytes_eq m.name name) v.maps);
  has_light = λ name. list_any (λ light. bytes_eq name light.0) v.lights;
  readable = readable_by_view seats v;
  whole = None;
}
