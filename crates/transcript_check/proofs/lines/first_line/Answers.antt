use Rattle.std.proofs.Common.{◌+◌, ◌-◌, length, drop, ◌∙◌, arith}
use Rattle.std.proofs.lemmas.Bool.Decides.{nat_tests}
use Rattle.std.proofs.lemmas.List.{take_all, drop_all, length-drop}
use Rattle.transcript_check.proofs.TextLines.{line_to, line_whole}
use Rattle.transcript_check.proofs.lines.first_line.Goals as goal

pub returns-then-text-end-eq10-clause-line : goal.returns-then-text-end-eq10-clause-line
returns-then-text-end-eq10-clause-line c =
    let text = c.args.text.now in
    let end = c.loop-end.end in
    line_to text _ end (grind (arith, nat_tests, c.loop-end-test.true)) (grind (arith, nat_tests, c.if-text-end-eq10.true)) c.loop-end.invariant (take_all (length text - (end + 1)) (drop (end + 1) text) (omega (arith, length-drop (end + 1) text)))

pub returns-clause-line : goal.returns-clause-line
returns-clause-line c =
    let text = c.args.text.now in
    line_whole text _ c.loop-end.end (grind (arith, nat_tests, c.is_empty.ensures, c.if-is_empty.false)) (grind (arith, nat_tests, c.loop-end-test.false)) c.loop-end.invariant (take_all (length text - length text) (drop (length text) text) (omega (arith, length-drop (length text) text)) ∙ drop_all (length text) text (omega arith))
