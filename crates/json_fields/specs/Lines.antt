-- A text that fits one line.
use Rattle.std.specs.Prelude.{◌≢◌, ℕ, List}
use Rattle.std.specs.List.{AllByRecursion}

-- the byte that ends a line
abbrev pub line_feed : ℕ
line_feed = 10

-- no byte ends the line
abbrev pub IsOneLine : List ℕ → Type 0
IsOneLine text = AllByRecursion (λ byte. byte ≢ line_feed) text
