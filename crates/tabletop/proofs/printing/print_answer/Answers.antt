use Rattle.script_play.proofs.SendingLemmas.{front_taken}
use Rattle.tabletop.proofs.printing.print_answer.Goals as goal

pub returns-in-Err-clause-printed : goal.returns-in-Err-clause-printed
returns-in-Err-clause-printed g c = front_taken _ _ _ c.in-Err.ensures.err
