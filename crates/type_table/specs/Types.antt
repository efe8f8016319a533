-- Named types as the list of their names with their values, in byte order of the names.
use Rattle.std.specs.Prelude.{◌≡◌, ◌≤◌, ℕ, Bool, IsTrue, not, nat_le, ◌&&◌, List, length, Option, is_some}
use Rattle.std.specs.List.{AllZip}
use Rattle.std.specs.FinMap.Entries.{find, put, is_sorted}
use Rattle.names.specs.Tag.{tag_cmp}

module _ {V : Type 0} where
  -- the value of the type with this name
  abbrev pub type_of : List ℕ → List (List ℕ × V) → Option V
  type_of name types = find tag_cmp name types

  -- the types with this value at the name: a name that is there takes it, and a new one goes to its place in the order
  abbrev pub with_type : List ℕ → V → List (List ℕ × V) → List (List ℕ × V)
  with_type name value types = put tag_cmp name value types

  -- the name is new, and there are 32 types
  abbrev pub lacks_room : List ℕ → List (List ℕ × V) → Bool
  lacks_room name types = not (is_some (type_of name types)) && nat_le 32 (length types)

  -- what is true of every table: it has at most 32 types, and their names rise, so no name stands there twice
  pub record AreTypes (types : List (List ℕ × V)) : Type 0 where
    pub few : length types ≤ 32
    pub in_order : IsTrue (is_sorted tag_cmp types)

  -- the names of the one table stand in the other, with clones of their values
  abbrev pub AreCopies : (V → V → Type 0) → List (List ℕ × V) → List (List ℕ × V) → Type 0
  AreCopies IsClone types copies = AllZip (λ one other. (other.0 ≡ one.0) × IsClone one.1 other.1) types copies
