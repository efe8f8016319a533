-- How many cells the players see.
use Rattle.std.specs.Prelude.{ℕ, sum_by}
use Rattle.std.specs.List.{range_with_len}
use Rattle.cells.specs.Cells.{count_of}
use Rattle.maps.specs.Maps.{Grid}
use Rattle.world.specs.Scene.{Scene}
use Rattle.player_view.specs.Sight.{visible}

-- of the map, each player's counted
abbrev pub seen_on : Scene → Grid → ℕ
seen_on s m = sum_by (λ p. count_of (visible s p m)) (range_with_len 1 s.fog.players)

-- of all maps
abbrev pub seen_total : Scene → ℕ
seen_total s = sum_by (seen_on s) s.maps
