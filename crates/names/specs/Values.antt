-- The values of properties.
use Rattle.std.specs.Prelude.{ℕ}

-- how many bytes a value has at most
abbrev pub value_limit : ℕ
value_limit = 200
