-- Types in a map, as members.
use Rattle.std.specs.Prelude.{List, [], ◌∷◌}
use Rattle.serde_json.specs.Data.{Data, Members, no_members, member}
use Rattle.views.specs.Keys.{Named}

abbrev pub members_in : {V : Type 0} → (V → Data) → List (Named V) → Members
members_in data_of [] = no_members
members_in data_of (named ∷ types) = member named.0 (data_of named.1) (members_in data_of types)
