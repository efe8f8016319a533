-- The numbers of sight types.
use Rattle.std.specs.Prelude.{ℕ, IsTrue, Bool, nat_le, ◌&&◌, if◌then◌else◌, List, All, Option, Some, None}
use Rattle.std.specs.Map.{values_of}
use Rattle.sight_types.specs.declared.Sight.{Sight}

-- the ranges of a sight are 0 to 40 cells, and its multiplier is 1 to 4 halves
abbrev pub are_ranges : ℕ → ℕ → ℕ → Bool
are_ranges range night mult = nat_le range 40 && nat_le night 40 && nat_le 1 mult && nat_le mult 4

-- each of the types has such numbers
abbrev pub AreSights : List (List ℕ × Sight) → Type 0
AreSights types = All (λ sight. IsTrue (are_ranges sight.range sight.night sight.mult)) (values_of types)

-- the sight of these numbers, where they are those of one
abbrev pub sight_of : ℕ → ℕ → ℕ → Option Sight
sight_of range night mult =
    if are_ranges range night mult then Some (record { range = range; night = night; mult = mult }) else None
