use Rattle.std.proofs.Common.{rules}
use mathlib.Core.Option.{none}
use Rattle.atomic_table.specs.Table.{step}
use Rattle.turn_lock.proofs.RuledSteps.{takes_object}
use Rattle.turn_lock.proofs.turns.take_object.Goals as goal

pub load-requires : goal.load-requires
load-requires g c = (search rules, search rules, takes_object g.O.Object.origin g.O.Object.history _ _ (step 0 0 0 0 none) _ _ c.requires.turn.0 c.requires.turn.1)
