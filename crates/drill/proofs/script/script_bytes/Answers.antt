use Rattle.std.proofs.Common.{◌≡◌, ◌≤◌, ◌∙◌, ◌+◌, ◌-◌, ◌++◌, suc, ap, arith, ℕ}
use Rattle.serde_json.specs.Written.{has_float}
use Rattle.drill.specs.Script.{Course, Made, drill_script, line_after, lines_after, script_line}
use Rattle.drill.proofs.Lines.{first_lines, line_exact, line_near, no_line, one_line}
use Rattle.drill.proofs.script.script_bytes.Goals as goal

pub loop-line-init : goal.loop-line-init
loop-line-init c = record {
  text = first_lines c.args.course c.in_ok-text.text.items c.args.lines c.in_ok-text.ensures c.requires.start;
  near = let e = ap (λ (c : Course). c.next) c.requires.start in omega (arith, e);
}

pub push_line-requires : goal.push_line-requires
push_line-requires c = ap has_float c.in_ok-seat.ensures.command ∙ line_exact c.loop-line.course

pub loop-line-preserved : goal.loop-line-preserved
loop-line-preserved c =
    let course : Course = c.loop-line.course in
    let line : ℕ = c.loop-line._line in
    let written = c.in_ok-push_line.ensures in
    let seat = c.in_ok-seat.ensures.seat in
    let command = c.in_ok-seat.ensures.command in
    let next = c.in_ok-seat.ensures.course in
    let left : c.args.lines - line ≡ suc (c.args.lines - (line + 1)) = omega (arith, c.loop-line.auto._line-end, c.loop-line-test.true) in
    let near : (let made : Made = line_after course in made.course.next) ≤ course.next + 5 = line_near course in
    record {
      text = (λ i. (written i) ++ lines_after (next i) (c.args.lines - (line + 1)))
          ∙ (λ i. (c.loop-line.text.items ++ script_line (seat i) (command i)) ++ lines_after (let made : Made = line_after course in made.course) (c.args.lines - (line + 1)))
          ∙ one_line course c.loop-line.text.items (drill_script c.args.course.number c.args.lines) (c.args.lines - line) (c.args.lines - (line + 1)) left c.loop-line.invariant.text;
      near = let e = ap (λ (c : Course). c.next) next in omega (arith, e, near, c.loop-line.invariant.near, c.loop-line.auto._line);
    }

pub returns : goal.returns
returns c =
    let none : c.args.lines - c.loop-line._line ≡ 0 = omega (arith, c.loop-line-test.false) in
    no_line c.loop-line.course c.loop-line.text.items (drill_script c.args.course.number c.args.lines) (c.args.lines - c.loop-line._line) none c.loop-line.invariant.text
