use Rattle.std.proofs.Common.{rules}
use mathlib.Core.Option.{none}
use Rattle.atomic_table.specs.Table.{step}
use Rattle.turn_lock.proofs.RuledSteps.{passes_turn}
use Rattle.turn_lock.proofs.turns.pass_turn.Goals as goal

pub store-requires : goal.store-requires
store-requires g c = (search rules, search rules, passes_turn g.O.Object.origin g.O.Object.history _ _ (step 0 0 0 0 none) _ _ c.requires.turn.0 c.requires.turn.1)
