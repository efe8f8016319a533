-- What holds of a view.
use Rattle.std.specs.Prelude.{◌≡◌, ℕ, ◌&&◌, Bool, true, List, Option, is_some, nat_lt, All, IfSome}
use Rattle.std.specs.Ordering.{nat_cmp}
use Rattle.cells.specs.Cells.{Extent, has, IsToldByCells}
use Rattle.cells.specs.declared.cell.Cell.{Cell}
use Rattle.names.specs.Tag.{tag_cmp}
use Rattle.names.specs.TokenId.{id_cmp}
use Rattle.views.specs.declared.view.MapView.{MapView}
use Rattle.views.specs.declared.view.TokenView.{TokenView}
use Rattle.views.specs.declared.view.View.{View}
use Rattle.views.specs.Keys.{Letter, cell_cmp, name_of, cell_of, map_name, token_id}
use Rattle.views.specs.Order.{at, in_order}

-- the item with this name
abbrev pub at_name : {X : Type 0} → (X → List ℕ) → List ℕ → List X → Option X
at_name = at tag_cmp

-- the letter of this cell
abbrev pub letter_at : Cell → List Letter → Option Letter
letter_at = at cell_cmp cell_of

abbrev pub is_on_map : Extent → Cell → Bool
is_on_map size cell = nat_lt cell.x size.w && nat_lt cell.y size.h

-- a map in a view, which is the game master's or a player's: its sets have its size, and its letters are just those
-- of the exposed cells, by row, then column
pub record IsMapView (gm : Bool) (m : MapView) : Type 0 where
  pub shown : is_some m.shown ≡ gm
  pub seen : IsToldByCells m.seen
  pub seen_size : m.seen.extent ≡ m.size
  pub exposed : IsToldByCells m.exposed
  pub exposed_size : m.exposed.extent ≡ m.size
  pub ordered : in_order cell_cmp cell_of m.letters ≡ true
  pub letters : (cell : Cell) → is_some (letter_at cell m.letters) ≡ (is_on_map m.size cell && has m.exposed cell.x cell.y)

abbrev pub itself : ℕ → ℕ
itself seat = seat

-- a token in a view of these maps: it stands on one of them, the game master's view has all of its parts, a player's no
-- part that is the game master's alone, and its owners ascend
pub record IsTokenView (gm : Bool) (maps : List MapView) (t : TokenView) : Type 0 where
  pub map : is_some (at_name map_name t.map maps) ≡ true
  pub owned : gm ≡ true → is_some t.owned ≡ true
  pub whole : is_some t.whole ≡ gm
  pub owners : IfSome t.whole (λ part. in_order nat_cmp itself part.owners ≡ true)

-- types and maps stand in byte order of names and tokens in order of ids, and nothing is repeated
pub record IsView (v : View) : Type 0 where
  pub lights : in_order tag_cmp name_of v.lights ≡ true
  pub sights : in_order tag_cmp name_of v.sights ≡ true
  pub maps : in_order tag_cmp map_name v.maps ≡ true
  pub tokens : in_order id_cmp token_id v.tokens ≡ true
  pub each_map : All (IsMapView v.gm) v.maps
  pub each_token : All (IsTokenView v.gm v.maps) v.tokens

-- both views are of one role, a map that is in both has one size, and no type is lost
pub record FollowsView (a b : View) : Type 0 where
  pub gm : a.gm ≡ b.gm
  pub sizes : All (λ m. All (λ n. m.name ≡ n.name → m.size ≡ n.size) b.maps) a.maps
  pub lights : (name : List ℕ) → is_some (at_name name_of name a.lights) ≡ true → is_some (at_name name_of name b.lights) ≡ true
  pub sights : (name : List ℕ) → is_some (at_name name_of name a.sights) ≡ true → is_some (at_name name_of name b.sights) ≡ true

-- where two views of a map expose the same cells, they have the same letters
abbrev pub KeepsLetters : MapView → MapView → Type 0
KeepsLetters a b = a.name ≡ b.name → a.exposed ≡ b.exposed → a.letters ≡ b.letters

-- each map that is in both lists does so
abbrev pub KeepLetters : List MapView → List MapView → Type 0
KeepLetters before after = All (λ b. All (λ a. KeepsLetters a b) before) after
