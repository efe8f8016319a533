-- A group with its count.
use Rattle.std.specs.Prelude.{◌≡◌, ℕ, List, ◌∷◌, ◌++◌}
use Rattle.dice_parse.specs.declared.parts.Group.{Group}
use Rattle.dice_parse.specs.Grammar.{IsNum, IsDie}

-- the count, a d, and what stands behind it
pub record IsCounted (s : List ℕ) (g : Group) : Type 0 where
  pub count : List ℕ
  pub die : List ℕ
  pub parts : s ≡ count ++ (100 ∷ die)
  pub count-is : IsNum count g.count
  pub die-is : IsDie die g
