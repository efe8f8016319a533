use Rattle.std.proofs.Common.{◌∷◌, [], true, subst}
use Rattle.serving.specs.Fates.{PrintsMore}
use Rattle.serving.proofs.PrintedLines.{prints_more}
use Rattle.serving.proofs.endings.print_whole.Goals as goal

pub returns-clause-prints : goal.returns-clause-prints
returns-clause-prints g c =
    let one = subst (λ l. PrintsMore true c.print_more-printed.result l (g.O.Sink.written c.args.out.now) (g.O.Sink.written c.print_more-printed.new.out)) c.bytes.ensures c.print_more-printed.ensures.prints in
    prints_more true c.print_more-printed.result c.print_more.result c.args.text.now (10 ∷ []) _ _ _ one c.print_more.ensures.prints
