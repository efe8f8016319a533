use Rattle.std.proofs.Common.{rules}
use Rattle.turn_lock.proofs.RuledSteps.{splits_seat}
use Rattle.turn_lock.proofs.turns.split_seat.Goals as goal

pub split_seat-requires : goal.split_seat-requires
split_seat-requires g c = (search rules, search rules, splits_seat g.O.Object.origin g.O.Object.history _ _ _)
