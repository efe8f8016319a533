use Rattle.std.proofs.Common.{rules, ◌≡◌}
use Rattle.drill.specs.Script.{drill_script}
use Rattle.drill.proofs.Playable.{script_of_lines}
use Rattle.drill.proofs.make_drill.Goals as goal

pub returns-clause-playable : goal.returns-clause-playable
returns-clause-playable c =
    let is : c.in_ok-script.script ≡ drill_script c.args.number c.args.lines = search rules in
    script_of_lines c.args.number c.args.lines c.in_ok-script.script c.requires.least is
