-- The letters of terrain.
use Rattle.std.specs.Prelude.{ℕ, ◌==◌, ◌||◌, Bool}
use Rattle.std.specs.Char.{is_ascii_lowercase}

-- the letter of a new map's cells: .
abbrev pub blank : ℕ
blank = 46

-- a to z, or .
abbrev pub is_letter : ℕ → Bool
is_letter byte = is_ascii_lowercase byte || byte == blank
