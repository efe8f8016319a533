use Rattle.std.proofs.Common.{◌≤◌, ◌*◌, ◌-◌}
use Rattle.vision.proofs.disc.root_above.Given as goal

abbrev pub invariant-loop-root : goal.invariant-loop-root
invariant-loop-root l = l.root * l.root ≤ l.limit

abbrev pub decreases-loop-root : goal.decreases-loop-root
decreases-loop-root l = 256 - l.root
