use Rattle.std.proofs.Common.{rules}
use mathlib.Core.Option.{none}
use Rattle.atomic_table.specs.Table.{step}
use Rattle.turn_lock.proofs.RuledSteps.{loads_made}
use Rattle.turn_lock.proofs.turns.load_made.Goals as goal

pub load-requires : goal.load-requires
load-requires g c = (search rules, search rules, loads_made g.O.Object.origin g.O.Object.history _ _ (step 0 0 0 0 none) _ _)
