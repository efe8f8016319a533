use Rattle.std.proofs.Common.{◌≤◌, length, sym, ap, subst, ◌∙◌}
use Rattle.type_table.specs.Types.{type_of, lacks_room}
use Rattle.type_table.proofs.Entries.{inserted, looked_up, few_after_insert, type_of-with_type_apart}
use Rattle.type_table.proofs.TypeTable.set.Goals as goal
use Rattle.type_table.proofs.TypeTable.set.Goals.{in-Ok, in-Err}

pub invariant_of-self : goal.invariant_of-self
invariant_of-self g c = elim c.match-insert.branch [
  | in-Ok w ↦ few_after_insert c.args.name c.self.inside.types.entries c.insert.new.self.entries _
      (ap (lacks_room c.args.name) c.self.view_is ∙ sym c.lacks_room.ensures ∙ c.if-lacks_room.false) c.self.invariant
      (w.in-Ok.ensures.old ∙ looked_up c.args.name c.self.inside.types.entries) w.in-Ok.ensures.len
  | in-Err w ↦ subst (λ es. length es ≤ 32) (sym w.in-Err.ensures.err) c.self.invariant
]

pub returns-clause-others : goal.returns-clause-others
returns-clause-others g c = elim c.match-insert.branch [
  | in-Ok w ↦ rw w.result-is (λ other differ.
      ap (type_of other) (w.in-Ok.ensures.entries ∙ inserted c.self.inside.types.entries c.args.name c.args.value) ∙ type_of-with_type_apart other c.args.name c.args.value c.self.inside.types.entries differ ∙ ap (type_of other) c.self.view_is)
  | in-Err w ↦ rw w.result-is tt
]
