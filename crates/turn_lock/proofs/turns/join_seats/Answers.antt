use Rattle.std.proofs.Common.{rules}
use mathlib.Core.Option.{none}
use Rattle.atomic_table.specs.Table.{step}
use Rattle.turn_lock.proofs.RuledSteps.{joins_seats, compares_fronts}
use Rattle.turn_lock.proofs.turns.join_seats.Goals as goal

pub join_seat-requires : goal.join_seat-requires
join_seat-requires g c = (search rules, search rules, search rules, search rules, joins_seats g.O.Object.origin g.O.Object.history _ _ _ _ _ (search rules) (search rules))

pub load-requires : goal.load-requires
load-requires g c = (search rules, search rules, compares_fronts g.O.Object.origin g.O.Object.history _ _ (step 0 0 0 0 none) _ _ (search rules))
