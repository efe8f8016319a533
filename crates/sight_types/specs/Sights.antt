-- The sight types of a campaign: their names with their sights, in byte order of the names.
use Rattle.std.specs.Prelude.{◌≡◌, ℕ, not, if◌then◌else◌, List, Option, Some, None}
use Rattle.type_table.specs.Types.{AreTypes, lacks_room}
use Rattle.sight_types.specs.Ranges.{are_ranges, AreSights}
use Rattle.sight_types.specs.declared.Sight.{Sight}
use Rattle.sight_types.specs.declared.SightFault.{SightFault}
use Rattle.sight_types.specs.declared.SightFault.TheVariants.{BadRange, TypeLimit, Memory}

-- what is true of the sight types: they are at most 32, their names rise, and each has the numbers of a sight
pub record AreSightTypes (types : List (List ℕ × Sight)) : Type 0 where
  pub table : AreTypes types
  pub sights : AreSights types

-- the first check that a sight type to be set breaks, in the order in which they are made
abbrev pub sight_fault : List (List ℕ × Sight) → List ℕ → ℕ → ℕ → ℕ → Option SightFault
sight_fault types name range night mult =
    if not (are_ranges range night mult) then Some BadRange
    else if lacks_room name types then Some TypeLimit
    else None

-- the fault is the broken check, or want of memory where none is broken
abbrev pub IsFaultOf : Option SightFault → SightFault → Type 0
IsFaultOf None fault = fault ≡ Memory
IsFaultOf (Some broken) fault = fault ≡ broken
