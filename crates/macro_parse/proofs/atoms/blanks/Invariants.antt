use Rattle.std.proofs.Common.{ℕ, ◌≤◌, List, length}
use Rattle.macro_parse.proofs.Scans.{Skips}
use Rattle.macro_parse.proofs.atoms.blanks.Given as goal

abbrev pub invariant-loop : goal.invariant-loop
invariant-loop l = ((r : List ℕ) → Skips l.cursor.rest.now r → Skips l.fn.cursor.rest.now r) × (length l.cursor.rest.now ≤ length l.fn.cursor.rest.now)

abbrev pub decreases-loop : goal.decreases-loop
decreases-loop l = length l.cursor.rest.now
