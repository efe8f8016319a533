use Rattle.std.proofs.Common.{sym, subst}
use Rattle.tabletop.specs.declared.log_end.LogEnded.{LogEnded}
use Rattle.tabletop.specs.declared.log_end.LogEnded.TheVariants.{Plain}
use Rattle.tabletop.specs.LogEndings.{IsToldInLog}
use Rattle.tabletop.proofs.LoggedEnds.{told_plain}
use Rattle.tabletop.proofs.log_end.print_log_line.Goals as goal

pub returns-in-Plain-clause-ended : goal.returns-in-Plain-clause-ended
returns-in-Plain-clause-ended g c =
    subst (λ (e : LogEnded). IsToldInLog e (Plain c.print_last_line.result)) (sym c.in-Plain.is) (told_plain c.in-Plain.ended c.print_last_line.result c.print_last_line.ensures.ended)
