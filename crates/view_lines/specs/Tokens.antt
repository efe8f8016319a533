-- The tokens of members that are there at times.
use Rattle.std.specs.Prelude.{ℕ, List, [], ◌∷◌, Option, Some, None}
use Rattle.json.specs.Token.{Token, key}
use Rattle.serde_json.specs.Data.{Data}
use Rattle.json_lines.specs.Tokens.{value_tokens}
use Rattle.views.specs.Keys.{Named}
use Rattle.view_lines.specs.Lines.{list_data, named_data}

-- of a member that is there where the list has items
abbrev pub list_tokens : List ℕ → List Data → List Token
list_tokens name [] = []
list_tokens name (value ∷ values) = key name ∷ value_tokens (list_data (value ∷ values))

-- of a member that is there where the value is
abbrev pub some_tokens : {A : Type 0} → List ℕ → (A → Data) → Option A → List Token
some_tokens name data_of None = []
some_tokens name data_of (Some value) = key name ∷ value_tokens (data_of value)

-- of a member that is there where there are types
abbrev pub types_tokens : {V : Type 0} → List ℕ → (V → Data) → List (Named V) → List Token
types_tokens name data_of [] = []
types_tokens name data_of (named ∷ types) = key name ∷ value_tokens (named_data data_of (named ∷ types))
