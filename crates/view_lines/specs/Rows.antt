-- Letters that stand by rows.
use Rattle.std.specs.Prelude.{◌&&◌, Bool, true, List, [], ◌∷◌, nat_le}
use Rattle.std.specs.List.{list_all}
use Rattle.views.specs.Keys.{Letter}

-- each letter is of a row no further down than those behind it
abbrev pub are_by_rows : List Letter → Bool
are_by_rows [] = true
are_by_rows (letter ∷ letters) = list_all (λ other. nat_le letter.0.y other.0.y) letters && are_by_rows letters
