-- By which key the items of each list stand, and in which order.
use Rattle.std.specs.Prelude.{ℕ, List}
use Rattle.std.specs.declared.cmp.Ordering.{Ordering}
use Rattle.std.specs.Ordering.{nat_cmp, on, then_cmp}
use Rattle.cells.specs.declared.cell.Cell.{Cell}
use Rattle.names.specs.declared.token_id.TokenId.{TokenId}
use Rattle.views.specs.declared.view.MapView.{MapView}
use Rattle.views.specs.declared.view.TokenView.{TokenView}
use Rattle.views.specs.declared.change.MapChange.{MapChange}

-- a value under a name
abbrev pub Named : Type 0 → Type 0
Named V = List ℕ × V

-- the terrain of a cell
abbrev pub Letter : Type 0
Letter = Cell × ℕ

-- by rows, then columns
abbrev pub cell_cmp : Cell → Cell → Ordering
cell_cmp = then_cmp (on (λ cell. cell.y) nat_cmp) (on (λ cell. cell.x) nat_cmp)

abbrev pub name_of : {V : Type 0} → Named V → List ℕ
name_of named = named.0

abbrev pub cell_of : Letter → Cell
cell_of letter = letter.0

abbrev pub map_name : MapView → List ℕ
map_name m = m.name

abbrev pub change_name : MapChange → List ℕ
change_name c = c.name

abbrev pub token_id : TokenView → TokenId
token_id t = t.id
