use Rattle.std.proofs.Common.{[]}
use Rattle.crash_log.proofs.tests.made.Goals as goal

pub returns : goal.returns
returns g c = record { text = _; entries = []; holds = c.in-Ok.ensures.ok tt }
