use Rattle.std.proofs.Common.{◌≤◌, length}
use Rattle.macro_parse.proofs.Scans.{InsideFrom}
use Rattle.macro_parse.proofs.atoms.quoted.Given as goal

abbrev pub invariant-loop-step : goal.invariant-loop-step
invariant-loop-step l = record {
  inside : InsideFrom l.fn.cursor.rest.now l.text.items l.cursor.rest.now;
  shrinks : length l.cursor.rest.now ≤ length l.fn.cursor.rest.now;
}

abbrev pub decreases-loop-step : goal.decreases-loop-step
decreases-loop-step l = length l.cursor.rest.now
