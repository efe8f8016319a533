use Rattle.std.proofs.Common.{length}
use Rattle.dice_parse.proofs.Turns.{SoFar}
use Rattle.dice_parse.proofs.readers.terms.Given as goal

abbrev pub invariant-loop-cursor : goal.invariant-loop-cursor
invariant-loop-cursor l = SoFar l.fn.cursor.rest.now l.cursor.rest.now l.terms.items

abbrev pub decreases-loop-cursor : goal.decreases-loop-cursor
decreases-loop-cursor l = length l.cursor.rest.now
