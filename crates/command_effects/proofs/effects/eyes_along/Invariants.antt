use Rattle.std.proofs.Common.{◌≡◌, ◌∷◌, map, take, drop, true}
use Rattle.std.specs.List.{list_all}
use Rattle.command_rules.specs.Places.{fits_at, cell_at}
use Rattle.command_effects.specs.Effects.{eye_at}
use Rattle.command_effects.proofs.effects.eyes_along.Given as goal

-- the eyes of the places so far, and what is left fits
abbrev pub invariant-loop-place : goal.invariant-loop-place
invariant-loop-place l = record {
  made : l.eyes.items ≡ eye_at l.token.size l.token.cell ∷ map (λ place. eye_at l.token.size (cell_at place)) (take l.place-index l.path);
  fit : list_all (fits_at l.map.walls.extent l.token.size) (drop l.place-index l.path) ≡ true;
}
