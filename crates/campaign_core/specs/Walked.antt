-- The scene in which what is seen on the way of a move is exposed.
use Rattle.std.specs.Prelude.{◌≡◌, ℕ, length, Option, Some, None, IfSome}
use Rattle.maps.specs.Maps.{map_of}
use Rattle.world.specs.Scene.{Scene}
use Rattle.command_effects.specs.Way.{along}
use Rattle.command_effects.specs.declared.way.Way.{Way}

-- with no way it is the same scene
abbrev pub IsWalked : Option Way → Scene → Scene → Type 0
IsWalked None before after = after ≡ before
IsWalked (Some way) before after = IfSome (map_of way.map before.maps) (λ m. after ≡ along way.id way.map m way.cells.items before)

-- how many looks that takes: one for each cell of the way
abbrev pub looks_on_way : Option Way → ℕ
looks_on_way None = 0
looks_on_way (Some way) = length way.cells.items
