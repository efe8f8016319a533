use Rattle.std.proofs.Common.{◌∙◌, sym, refl}
use Rattle.view_change.proofs.ChangeShape.{same_where_true, other_where_false}
use Rattle.view_change.proofs.difference.change_by.Goals as goal

pub returns-then-same_view_by-clause-none : goal.returns-then-same_view_by-clause-none
returns-then-same_view_by-clause-none c =
    (λ e. same_where_true c.args.before.now c.args.after.now (sym c.same_view_by.ensures.test ∙ c.if-same_view_by.true), λ e. refl)

pub returns-clause-none : goal.returns-clause-none
returns-clause-none c =
    (λ e. cc, λ e. absurd (other_where_false c.args.before.now c.args.after.now (sym c.same_view_by.ensures.test ∙ c.if-same_view_by.false) e))
