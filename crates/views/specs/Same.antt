-- Tests that tell whether two views, or two parts of views, are equal.
use Rattle.std.specs.Prelude.{ℕ, ℤ, ◌==◌, ◌&&◌, Bool, List, not, cond}
use Rattle.std.specs.Option.{option_eq}
use Rattle.std.specs.Ordering.{int_eq}
use Rattle.std.specs.Str.{bytes_eq}
use Rattle.std.specs.Cmp.Lexicographic.{pointwise}
use Rattle.cells.specs.Cells.{Extent, cells_eq}
use Rattle.cells.specs.declared.cell.Cell.{Cell}
use Rattle.names.specs.declared.kinds.Mode.{Mode}
use Rattle.names.specs.declared.kinds.Mode.TheVariants.{Off, Day, Night}
use Rattle.names.specs.declared.kinds.Layer.{Layer}
use Rattle.names.specs.declared.kinds.Layer.TheVariants.{Token, Hidden, Object, Background}
use Rattle.names.specs.TokenId.{id_eq}
use Rattle.names.specs.declared.token_id.TokenId.{TokenId}
use Rattle.views.specs.Keys.{Named, Letter}
use Rattle.views.specs.declared.view.MapView.{MapView}
use Rattle.views.specs.declared.view.TokenView.{TokenView}
use Rattle.views.specs.declared.view.OwnedPart.{OwnedPart}
use Rattle.views.specs.declared.view.GmPart.{GmPart}
use Rattle.views.specs.declared.view.FightView.{FightView}
use Rattle.views.specs.declared.view.View.{View}

abbrev pub same_bool : Bool → Bool → Bool
same_bool a b = cond a b (not b)

abbrev pub mode_number : Mode → ℕ
mode_number Off = 0
mode_number Day = 1
mode_number Night = 2

abbrev pub same_mode : Mode → Mode → Bool
same_mode a b = mode_number a == mode_number b

abbrev pub layer_number : Layer → ℕ
layer_number Token = 0
layer_number Hidden = 1
layer_number Object = 2
layer_number Background = 3

abbrev pub same_layer : Layer → Layer → Bool
same_layer a b = layer_number a == layer_number b

abbrev pub same_extent : Extent → Extent → Bool
same_extent a b = (a.w == b.w) && (a.h == b.h)

abbrev pub same_cell : Cell → Cell → Bool
same_cell a b = (a.x == b.x) && (a.y == b.y)

abbrev pub same_letter : Letter → Letter → Bool
same_letter a b = same_cell a.0 b.0 && (a.1 == b.1)

abbrev pub same_light : Named ℤ → Named ℤ → Bool
same_light a b = bytes_eq a.0 b.0 && int_eq a.1 b.1

-- a sight type, or a property
abbrev pub same_bytes : Named (List ℕ) → Named (List ℕ) → Bool
same_bytes a b = bytes_eq a.0 b.0 && bytes_eq a.1 b.1

abbrev pub same_props : List (Named (List ℕ)) → List (Named (List ℕ)) → Bool
same_props = pointwise same_bytes

abbrev pub same_map : MapView → MapView → Bool
same_map a b =
    bytes_eq a.name b.name && (same_extent a.size b.size && (same_mode a.mode b.mode && (option_eq same_bool a.shown b.shown
    && (cells_eq a.seen b.seen && (cells_eq a.exposed b.exposed && pointwise same_letter a.letters b.letters)))))

abbrev pub same_owned : OwnedPart → OwnedPart → Bool
same_owned a b = option_eq bytes_eq a.sight b.sight && (option_eq bytes_eq a.light b.light && same_props a.own b.own)

abbrev pub same_whole : GmPart → GmPart → Bool
same_whole a b = bytes_eq a.owners b.owners && (same_props a.secret b.secret && same_bool a.visible b.visible)

abbrev pub same_token : TokenView → TokenView → Bool
same_token a b =
    id_eq a.id b.id && (bytes_eq a.name b.name && (bytes_eq a.map b.map && (same_cell a.cell b.cell && ((a.size == b.size)
    && (same_layer a.layer b.layer && (same_props a.props b.props && (option_eq same_owned a.owned b.owned && option_eq same_whole a.whole b.whole)))))))

abbrev pub same_entry : TokenId × ℤ → TokenId × ℤ → Bool
same_entry a b = id_eq a.0 b.0 && int_eq a.1 b.1

abbrev pub same_fight : FightView → FightView → Bool
same_fight a b = pointwise same_entry a.list b.list && ((a.round == b.round) && option_eq id_eq a.turn b.turn)

unfoldable pub same_view : View → View → Bool
same_view a b =
    same_bool a.gm b.gm && (pointwise same_light a.lights b.lights && (pointwise same_bytes a.sights b.sights
    && (pointwise same_map a.maps b.maps && (pointwise same_token a.tokens b.tokens && option_eq same_fight a.fight b.fight))))
