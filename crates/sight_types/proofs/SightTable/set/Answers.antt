use Rattle.std.proofs.Common.{sym, subst}
use Rattle.sight_types.specs.Ranges.{AreSights}
use Rattle.sight_types.proofs.Sights.{AreSights-with_type}
use Rattle.sight_types.proofs.SightTable.set.Goals as goal
use Rattle.sight_types.proofs.SightTable.set.Goals.{in-Ok, in-Err-TypeLimit, in-Err-Memory}

pub invariant_of-self : goal.invariant_of-self
invariant_of-self c = elim c.match-set.branch [
  | in-Ok w ↦ subst AreSights (sym w.in-Ok.ensures.set)
      (AreSights-with_type c.self.inside.types c.args.name c.args.range c.args.night c.args.mult c.in-Some.sight c.self.invariant c.in-Some.ensures)
  | in-Err-TypeLimit w ↦ subst AreSights (sym w.in-Err-TypeLimit.ensures.unchanged) c.self.invariant
  | in-Err-Memory w ↦ subst AreSights (sym w.in-Err-Memory.ensures.unchanged) c.self.invariant
]
