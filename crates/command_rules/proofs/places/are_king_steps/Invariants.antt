use Rattle.std.proofs.Common.{◌≡◌, drop, true}
use Rattle.std.specs.List.{list_all}
use Rattle.command_rules.specs.Places.{fits_at, are_king_steps}
use Rattle.command_rules.proofs.places.are_king_steps.Given as goal

-- what is left decides, and it fits
abbrev pub invariant-loop-place : goal.invariant-loop-place
invariant-loop-place l = record {
  rest : are_king_steps l.last (drop l.place-index l.path) ≡ are_king_steps l.fn.from l.path;
  fit : list_all (fits_at l.size l.side) (drop l.place-index l.path) ≡ true;
}
