use Rattle.std.proofs.Common.{rules}
use mathlib.Core.Option.{none}
use Rattle.atomic_table.specs.Table.{step}
use Rattle.turn_lock.proofs.RuledSteps.{takes_turn}
use Rattle.turn_lock.proofs.turns.take_turn.Goals as goal

pub compare_exchange-requires : goal.compare_exchange-requires
compare_exchange-requires g c = (search rules, search rules, takes_turn g.O.Object.origin g.O.Object.history _ _ (step 0 0 0 0 none) _ _)
