use Rattle.std.proofs.Common.{rules, ap, sym, ◌∙◌, Some}
use mathlib.Core.Option.{none}
use Rattle.atomic_table.specs.Table.{step}
use Rattle.turn_lock.proofs.RuledSteps.{gives_object}
use Rattle.turn_lock.proofs.turns.give_object.Goals as goal

pub load-requires : goal.load-requires
load-requires g c = let held = c.requires.object in
    (search rules, search rules, gives_object g.O.Object.origin g.O.Object.history _ _ (step 0 0 0 0 none) _ _ held.0 c.requires.sized.1 c.requires.turn held.1 held.2.1 (c.requires.hall.1 ∙ ap Some (sym held.2.0)))
