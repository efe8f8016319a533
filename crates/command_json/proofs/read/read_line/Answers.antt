use Rattle.command_json.proofs.Limits.{given_keeps, given_names}
use Rattle.command_json.proofs.read.read_line.Goals as goal

pub returns-clause-limits : goal.returns-clause-limits
returns-clause-limits c = given_keeps c.args.line.now c.args.gm c.read_known.result c.read_known.ensures

pub returns-clause-key : goal.returns-clause-key
returns-clause-key c = given_names c.args.line.now c.args.gm c.read_known.result c.read_known.ensures
