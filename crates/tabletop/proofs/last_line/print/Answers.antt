use Rattle.script_play.proofs.SendingLemmas.{front_taken}
use Rattle.tabletop.proofs.EndsLemmas.{printed}
use Rattle.tabletop.proofs.last_line.print.Goals as goal

pub returns-clause-line : goal.returns-clause-line
returns-clause-line g c = printed c.write_whole.result (front_taken _ _ _) c.write_whole.ensures.ok c.write_whole.ensures.failed c.write_whole.ensures.err
