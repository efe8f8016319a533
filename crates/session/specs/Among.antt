-- Lines that stand among others.
use Rattle.std.specs.Prelude.{◌≡◌, ℕ, List, [], ◌∷◌, ◌++◌}

-- these lines stand among the others, each in a place of its own and in the same order
abbrev pub AreAmong : List (List ℕ) → List (List ℕ) → Type 0
AreAmong [] others = Unit {0}
AreAmong (line ∷ lines) others = (before : List (List ℕ)) × (behind : List (List ℕ)) × (others ≡ before ++ line ∷ behind) × AreAmong lines behind
