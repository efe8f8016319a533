-- Lines that are queued together.
use Rattle.std.specs.Prelude.{◌≡◌, ℕ, List, [], Option, None, Some}

-- where there is no first line, there is none
abbrev pub AreInOrder : Option (List ℕ) → List (List ℕ) → Type 0
AreInOrder None rest = rest ≡ []
AreInOrder (Some first) rest = Unit {0}
