-- The values of a script's commands.
use Rattle.std.specs.Prelude.{ℕ, List, map}
use Rattle.serde_json.specs.Data.{Data, number, unsigned, array}
use Rattle.serde_json.specs.View.{items_of}

abbrev pub whole : ℕ → Data
whole n = number (unsigned n)

abbrev pub list : List Data → Data
list values = array (items_of values)

abbrev pub wholes : List ℕ → Data
wholes numbers = list (map whole numbers)
