use Rattle.std.proofs.Common.{rules}
use mathlib.Core.Option.{none}
use Rattle.atomic_table.specs.Table.{step}
use Rattle.turn_lock.proofs.RuledSteps.{adds_entries}
use Rattle.turn_lock.proofs.turns.add_entries.Goals as goal

pub fetch_add-requires : goal.fetch_add-requires
fetch_add-requires g c = let held = c.requires.object in
    (search rules, search rules, adds_entries g.O.Object.origin g.O.Object.history _ _ (step 0 0 0 0 none) _ _ _ held.0 c.requires.turn.0 c.requires.turn.1 held.1 held.2.0 held.2.1 held.2.2)
