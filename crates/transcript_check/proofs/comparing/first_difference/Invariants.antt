use Rattle.player_machine.specs.Items.{items_in}
use Rattle.transcript_check.proofs.Differences.{AreSameTo}
use Rattle.transcript_check.proofs.comparing.first_difference.Given as goal

abbrev pub invariant-loop-place : goal.invariant-loop-place
invariant-loop-place l = AreSameTo (items_in l.items) (items_in l.others) l.place
