-- Why a map isn't added.
use Rattle.std.specs.Prelude.{◌≡◌, ℕ, nat_le, if◌then◌else◌, List, length, Option, Some, None}
use Rattle.maps.specs.Maps.{Grid, has_map}
use Rattle.maps.specs.declared.map_table.MapFault.{MapFault}
use Rattle.maps.specs.declared.map_table.MapFault.TheVariants.{MapExists, MapLimit, Memory}

-- the first check that a new map's name breaks, in the order in which they are made
abbrev pub map_fault : List Grid → List ℕ → Option MapFault
map_fault maps name =
    if has_map name maps then Some MapExists
    else if nat_le 8 (length maps) then Some MapLimit
    else None

-- the fault is the broken check, or want of memory where none is broken
abbrev pub IsMapFaultOf : Option MapFault → MapFault → Type 0
IsMapFaultOf None fault = fault ≡ Memory
IsMapFaultOf (Some broken) fault = fault ≡ broken
