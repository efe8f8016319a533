-- There is room for a macro that is set.
use Rattle.std.proofs.Common.{sym, ap, ◌∙◌}
use Rattle.type_table.specs.Types.{lacks_room}
use Rattle.type_table.proofs.Entries.{looked_up, few_after_insert}
use Rattle.seats.proofs.macros.Macros.set.Goals as goal

pub invariant_of-self : goal.invariant_of-self
invariant_of-self c =
    few_after_insert c.args.name c.self.inside.texts.entries c.insert.new.self.entries _
    (ap (lacks_room c.args.name) c.self.view_is ∙ sym c.lacks_room.ensures ∙ c.if-lacks_room.false) c.self.invariant
    (c.in-Ok.ensures.old ∙ looked_up c.args.name c.self.inside.texts.entries) c.in-Ok.ensures.len
