use Rattle.std.proofs.Common.{sym, subst}
use Rattle.initiative.specs.Fights.{IsFight, PassesTurn, Rounds}
use Rattle.initiative.proofs.Rounds.{passes}
use Rattle.initiative.proofs.fight.Fight.next.Goals as goal

pub returns-clause-passes : goal.returns-clause-passes
returns-clause-passes c =
    subst (λ (new : Rounds). PassesTurn c.args.self.now new) (sym c.pass_on.ensures) (passes c.args.self.now (subst IsFight c.self.view_is c.self.invariant))
