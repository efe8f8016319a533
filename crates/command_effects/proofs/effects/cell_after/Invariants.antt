use Rattle.std.proofs.Common.{◌≡◌, drop, true}
use Rattle.std.specs.List.{list_all}
use Rattle.command_rules.specs.Places.{fits_at}
use Rattle.command_effects.specs.Effects.{cell_after}
use Rattle.command_effects.proofs.effects.cell_after.Given as goal

-- the steps that are left lead on from the last cell
abbrev pub invariant-loop-place : goal.invariant-loop-place
invariant-loop-place l = record {
  rest : cell_after l.left l.last (drop l.place-index l.path) ≡ cell_after l.steps l.fn.from l.path;
  fit : list_all (fits_at l.size l.side) (drop l.place-index l.path) ≡ true;
}
