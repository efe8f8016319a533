use Rattle.std.proofs.Common.{◌≡◌, take}
use Rattle.tokens.proofs.values.copy_values.Given as goal

abbrev pub invariant-loop-place : goal.invariant-loop-place
invariant-loop-place l = l.copy.entries ≡ take l.place l.values.entries
