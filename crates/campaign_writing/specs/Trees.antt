-- The values of the campaign text, as they are written.
use Rattle.std.specs.Prelude.{ℕ, ℤ, List, [], ◌∷◌, map, Option, Some, None}
use Rattle.serde_json.specs.Data.{Data, null, number, unsigned, string, array, Members, no_members, member, put}
use Rattle.serde_json.specs.Find.{of_integer}
use Rattle.serde_json.specs.View.{items_of}

abbrev pub whole : ℕ → Data
whole n = number (unsigned n)

abbrev pub integer : ℤ → Data
integer z = number (of_integer z)

abbrev pub list : List Data → Data
list values = array (items_of values)

abbrev pub wholes : List ℕ → Data
wholes numbers = list (map whole numbers)

-- a name, or null
abbrev pub name_or_null : Option (List ℕ) → Data
name_or_null None = null
name_or_null (Some name) = string name

-- names with their values, in the order in which they are listed
abbrev pub named : {V : Type 0} → (V → Data) → List (List ℕ × V) → Members
named tree [] = no_members
named tree (entry ∷ entries) = member entry.0 (tree entry.1) (named tree entries)

-- the members with this one, in its place by the bytes of its key
unfoldable pub with_member : List ℕ → Data → Members → Members
with_member = put
