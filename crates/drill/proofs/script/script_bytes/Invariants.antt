use Rattle.std.proofs.Common.{◌≡◌, ◌+◌, ◌-◌, ◌*◌, ◌≤◌, ◌++◌}
use Rattle.drill.specs.Script.{drill_script, lines_after}
use Rattle.drill.proofs.script.script_bytes.Given as goal

abbrev pub invariant-loop-line : goal.invariant-loop-line
invariant-loop-line l = record {
  text : l.text.items ++ lines_after l.course (l.lines - l._line) ≡ drill_script l.initial.course.number l.lines;
  near : l.course.next ≤ 2480 + 5 * (l._line - 5);
}
