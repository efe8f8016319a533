-- The way of a move that breaks no rule, on the scene that the move makes.
use Rattle.std.proofs.Common.{◌≡◌, ℕ, zero, suc, true, List, [], ◌∷◌, map, take, Some, ℤ}
use Rattle.std.specs.List.{AllByRecursion, list_all}
use Rattle.std.proofs.lemmas.Bool.{and_parts}
use Rattle.cells.specs.Cells.{Extent}
use Rattle.world.specs.Rules.{fits_on}
use Rattle.command_rules.specs.Places.{fits_at, cell_at}
use Rattle.command_effects.proofs.Moves.{fits_there}

-- the square fits at each cell of the path's front
pub passed_fit : (size : Extent) (side n : ℕ) (path : List (ℤ × ℤ)) → list_all (fits_at size side) path ≡ true → AllByRecursion (λ cell. fits_on (Some size) cell side ≡ true) (map cell_at (take n path))
passed_fit size side zero path h = tt
passed_fit size side (suc n) [] h = tt
passed_fit size side (suc n) (place ∷ path) h =
    let parts = and_parts (fits_at size side place) (list_all (fits_at size side) path) h in
    (fits_there size side place parts.0, passed_fit size side n path parts.1)
