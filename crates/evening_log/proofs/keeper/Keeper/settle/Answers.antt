use Rattle.std.proofs.Common.{◌≡◌, ◌++◌, rules, ap, sym, subst, ◌∙◌, List, length, refl, arith, Ok, Err}
use Rattle.campaign_law.specs.declared.entry.Entry.{Entry}
use Rattle.evening_log.specs.Keeping.{IsGroup, group_of, log_history}
use Rattle.evening_log.proofs.Keeping.{kept_longer, kept_more, kept_refused, no_group, history_same, history_more}
use Rattle.evening_log.proofs.keeper.Keeper.settle.Goals as goal

pub invariant_of-self : goal.invariant_of-self
invariant_of-self g c = kept_longer _ c.copied.new.pass c.deref.result.now c.self.invariant c.deref.ensures c.copied.ensures.hall c.copied.ensures.front

pub returns-in_err-group-clause-history : goal.returns-in_err-group-clause-history
returns-in_err-group-clause-history g c =
    history_same c.self.inside.pass.front c.copied.new.pass.front c.self.inside.logged c.from_residual.result c.copied.ensures.front c.self.invariant.within (no_group c.from_residual.result c.from_residual.ensures.0)
    ∙ ap (λ k. log_history k ++ group_of c.from_residual.result) c.self.view_is

pub invariant_of-self-in_err-group-2 : goal.invariant_of-self-in_err-group-2
invariant_of-self-in_err-group-2 g c =
    let longer = kept_longer _ c.copied.new.pass c.deref.result.now c.self.invariant c.deref.ensures c.copied.ensures.hall c.copied.ensures.front in
    kept_refused _ c.in_ok-group.group (Err c.in_err-group-2.field-0.0) c.put.new.disk c.put.new.journal c.put.new.stuck longer c.if-self.false c.in_ok-group.ensures.group refl c.in_err-group-2.ensures.kept

pub returns-in_err-group-2-clause-history : goal.returns-in_err-group-2-clause-history
returns-in_err-group-2-clause-history g c =
    history_same c.self.inside.pass.front c.copied.new.pass.front c.self.inside.logged c.from_residual-in_err-group-2.result c.copied.ensures.front c.self.invariant.within (no_group c.from_residual-in_err-group-2.result c.from_residual-in_err-group-2.ensures.0)
    ∙ ap (λ k. log_history k ++ group_of c.from_residual-in_err-group-2.result) c.self.view_is

pub invariant_of-self-2 : goal.invariant_of-self-2
invariant_of-self-2 g c =
    let longer = kept_longer _ c.copied.new.pass c.deref.result.now c.self.invariant c.deref.ensures c.copied.ensures.hall c.copied.ensures.front in
    let size : c.len.result ≡ length c.in_ok-group-2.group = search (rules, ap length c.group.view_is) in
    kept_more _ c.in_ok-group.group (Ok c.in_ok-group-2.group) c.put.new.disk c.put.new.journal c.put.new.stuck c.len.result longer c.if-self.false c.in_ok-group.ensures.group size
    (omega (arith, size, ap length c.in_ok-group-2.ensures.group)) c.in_ok-group-2.ensures.kept

pub returns-clause-history : goal.returns-clause-history
returns-clause-history g c =
    let size : c.len.result ≡ length c.in_ok-group-2.group = search (rules, ap length c.group.view_is) in
    let is : IsGroup c.in_ok-group-2.group c.self.inside.logged c.copied.new.pass.front =
    subst (λ (es : List Entry). IsGroup es c.self.inside.logged c.copied.new.pass.front) (sym c.in_ok-group-2.ensures.group) c.in_ok-group.ensures.group
    in
    history_more c.self.inside.pass.front c.copied.new.pass.front c.in_ok-group-2.group c.self.inside.logged c.len.result c.copied.ensures.front c.self.invariant.within is size
    ∙ ap (λ k. log_history k ++ c.in_ok-group-2.group) c.self.view_is
