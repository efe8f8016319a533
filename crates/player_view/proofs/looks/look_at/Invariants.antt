use Rattle.std.proofs.Common.{◌≡◌, take}
use Rattle.player_view.specs.Lookouts.{visible_at}
use Rattle.player_view.proofs.looks.look_at.Given as goal

abbrev pub invariant-loop-number : goal.invariant-loop-number
invariant-loop-number l = l.out ≡ visible_at l.scene l.seat l.map (take l.number l.lookout.places.items)
