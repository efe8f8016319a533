-- Fields by the ids of tokens, in order of ids.
use Rattle.std.specs.Prelude.{◌≡◌, List, All, Option, Some, IsSomeAnd}
use Rattle.std.specs.Map.{lookup, remove_entry}
use Rattle.std.specs.BTreeMap.{insert_entry}
use Rattle.names.specs.declared.token_id.TokenId.{TokenId}
use Rattle.names.specs.TokenId.{id_cmp, id_eq}
use Rattle.lattice.specs.Coordinates.{Coordinates}
use Rattle.cells.specs.Cells.{Extent, Cells}
use Rattle.topology.specs.WallLists.{WallLists}
use Rattle.topology.specs.Sight.{field_of}
use Rattle.vision.specs.declared.lamp.Lamp.{Lamp}

-- the field that is kept for the id
abbrev pub field_at : TokenId → List (TokenId × Cells) → Option Cells
field_at id fields = lookup (id_eq id) fields

-- the fields with this one for the id
abbrev pub with_field : TokenId → Cells → List (TokenId × Cells) → List (TokenId × Cells)
with_field id field fields = insert_entry id_cmp fields id field

-- the fields without that of the id
abbrev pub without_field : TokenId → List (TokenId × Cells) → List (TokenId × Cells)
without_field id fields = remove_entry (id_eq id) fields

-- for the token and for each lamp the field of its eye is kept, on a map of that size with these walls
pub record AreFieldsOf (walls : WallLists) (map : Extent) (id : TokenId) (eye : Coordinates) (lamps : List Lamp) (fields : List (TokenId × Cells)) : Type 0 where
  pub size : walls.extent ≡ map
  pub own : field_at id fields ≡ Some (field_of walls eye)
  pub of_lamps : All (λ lamp. field_at lamp.id fields ≡ Some (field_of walls lamp.eye)) lamps

-- a field of that size is kept for each lamp
abbrev pub AreKept : Extent → List Lamp → List (TokenId × Cells) → Type 0
AreKept map lamps fields = All (λ lamp. IsSomeAnd (field_at lamp.id fields) (λ field. field.extent ≡ map)) lamps
