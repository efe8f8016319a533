-- Properties: values under names, in the order in which the names were first set.
use Rattle.std.specs.Prelude.{◌≤◌, ℕ, ◌&&◌, nat_le, Bool, List, length, All, Option, is_none}
use Rattle.std.specs.Str.{bytes_eq}
use Rattle.std.specs.Map.{lookup}
use Rattle.indexmap.specs.IndexMap.{insert_entry}
pub use Rattle.names.specs.Values.{value_limit}

-- a name and its value
abbrev pub Property : Type 0
Property = List ℕ × List ℕ

-- how many names there are at most
abbrev pub name_limit : ℕ
name_limit = 64

-- the value under a name
abbrev pub value_of : List ℕ → List Property → Option (List ℕ)
value_of name props = lookup (bytes_eq name) props

-- the properties after a name is set: a name that is there keeps its place, and a new name goes last
abbrev pub with_value : List ℕ → List ℕ → List Property → List Property
with_value name value props = insert_entry bytes_eq props name value

-- the name is new, and there are as many names as there may be
abbrev pub is_full_for : List ℕ → List Property → Bool
is_full_for name props = is_none (value_of name props) && nat_le name_limit (length props)

abbrev pub IsShortValue : Property → Type 0
IsShortValue p = length p.1 ≤ value_limit

-- what holds of all properties of a class
pub record AreInLimits (props : List Property) : Type 0 where
  pub names : length props ≤ name_limit
  pub values : All IsShortValue props
