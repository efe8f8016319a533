use Rattle.std.proofs.Common.{◌≡◌, drop}
use Rattle.std.specs.List.{list_all}
use Rattle.command_rules.specs.Places.{fits_at}
use Rattle.command_rules.proofs.places.all_fit.Given as goal

-- what is left decides
abbrev pub invariant-loop-place : goal.invariant-loop-place
invariant-loop-place l = list_all (fits_at l.size l.side) (drop l.place-index l.path) ≡ list_all (fits_at l.size l.side) l.path
