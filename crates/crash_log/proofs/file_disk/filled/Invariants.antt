use Rattle.std.proofs.Common.{length, ◌-◌, ◌≤◌}
use Rattle.crash_log.proofs.file_disk.filled.Given as goal

abbrev pub invariant-loop-count : goal.invariant-loop-count
invariant-loop-count l = l.count ≤ length l.piece

abbrev pub decreases-loop-count : goal.decreases-loop-count
decreases-loop-count l = length l.initial.piece - l.count
