use Rattle.std.proofs.Common.{take}
use Rattle.line_io.specs.Lines.{HasNoLineEnd}
use Rattle.transcript_check.proofs.lines.first_line.Given as goal

abbrev pub invariant-loop-end : goal.invariant-loop-end
invariant-loop-end l = HasNoLineEnd (take l.end l.text)
