use Rattle.std.proofs.Common.{ap, subst, ◌∙◌}
use Rattle.initiative.specs.Fights.{IsFight, is_listed, without}
use Rattle.initiative.proofs.Rounds.{dropped_is_fight, gone, left_list}
use Rattle.initiative.proofs.fight.Fight.drop_entry.Goals as goal

pub leave-requires : goal.leave-requires
leave-requires c = dropped_is_fight c.args.id c.args.self.now c.pass_by.new.self (subst IsFight c.self.view_is c.self.invariant) c.pass_by.ensures

pub returns-clause-gone : goal.returns-clause-gone
returns-clause-gone c =
    ap (λ s. is_listed c.args.id s.list) c.leave.ensures ∙ ap (is_listed c.args.id) (left_list (without c.args.id c.pass_by.new.self.list) c.pass_by.new.self) ∙ gone c.args.id c.pass_by.new.self.list
