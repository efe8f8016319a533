use Rattle.std.proofs.Common.{rules, SFits, w16, ap, subst, ◌∙◌}
use Rattle.std.proofs.lemmas.Int.{to_z-of_z}
use Rattle.initiative.specs.declared.entry.Entry.{Entry}
use Rattle.initiative.specs.Fights.{IsFight, Rounds, SetsEntry, list_with, with_list}
use Rattle.initiative.proofs.Rounds.{set_leaves}
use Rattle.initiative.proofs.fight.Fight.set.Goals as goal
use Rattle.initiative.proofs.fight.Fight.set.Goals.{After-drop-self-inside}

left : (c : After-drop-self-inside) → let e : Entry = record { value = c.args.value; id = c.args.id } in
    let old : Rounds = record { list = c.self.inside.entries.keys; turn = c.self.inside.turn; round = c.self.inside.round } in
    IsFight (with_list c.put_in.new.entries.keys old) × SetsEntry e.id e.value old (with_list c.put_in.new.entries.keys old)
left c =
    let e : Entry = record { value = c.args.value; id = c.args.id } in
    let fits : SFits w16 c.args.value = search rules in
    set_leaves e _ c.put_in.new.entries.keys c.self.invariant c.put_in.ensures.in_order
    (c.in_ok-put_in.ensures.keys
    ∙ ap (λ v. list_with (record { value = v; id = c.args.id }) c.in_ok-entries.entries.keys) (to_z-of_z w16 c.args.value fits)
    ∙ ap (list_with e) c.in_ok-entries.ensures)

pub invariant_of-self : goal.invariant_of-self
invariant_of-self c = (left c).0

pub returns-clause-sets : goal.returns-clause-sets
returns-clause-sets c =
    let new : Rounds = record { list = c.put_in.new.entries.keys; turn = c.self.inside.turn; round = c.self.inside.round } in
    subst (λ (old : Rounds). SetsEntry c.args.id c.args.value old new) c.self.view_is (left c).1
