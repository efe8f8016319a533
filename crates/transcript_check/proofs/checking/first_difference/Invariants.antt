use Rattle.transcript_check.proofs.Differences.{AreSameTo}
use Rattle.transcript_check.proofs.checking.first_difference.Given as goal

abbrev pub invariant-loop-place : goal.invariant-loop-place
invariant-loop-place l = AreSameTo l.bytes l.others l.place
