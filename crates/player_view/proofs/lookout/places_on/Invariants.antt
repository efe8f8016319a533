use Rattle.std.proofs.Common.{◌≡◌}
use Rattle.player_view.specs.Lookouts.{places_among}
use Rattle.player_view.proofs.lookout.places_on.Given as goal

abbrev pub invariant-loop-place : goal.invariant-loop-place
invariant-loop-place l = l.places.items ≡ places_among l.scene l.name l.place
