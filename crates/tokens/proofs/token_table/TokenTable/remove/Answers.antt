use Rattle.std.proofs.Common.{ap, sym, ◌∙◌}
use Rattle.tokens.specs.Tokens.{in_order}
use Rattle.tokens.proofs.TokenLemmas.{in_order-without, is_taken, none_is, none_taken, taken_is}
use Rattle.tokens.proofs.token_table.TokenTable.remove.Goals as goal

pub invariant_of-self : goal.invariant_of-self
invariant_of-self c =
    ap in_order (c.remove.ensures.items ∙ is_taken c.args.id c.self.inside.tokens.items c.args.self.now c.deref.result.now c.in-Some.place
    c.self.invariant c.self.view_is c.deref.ensures.value c.in-Some.ensures)
    ∙ in_order-without c.args.id c.args.self.now (sym (ap in_order c.self.view_is) ∙ c.self.invariant)

pub returns-in-Some-clause-value : goal.returns-in-Some-clause-value
returns-in-Some-clause-value c =
    taken_is c.args.id c.self.inside.tokens.items c.args.self.now c.deref.result.now c.in-Some.place c.remove.result
    c.self.view_is c.deref.ensures.value c.in-Some.ensures c.remove.ensures.value

pub returns-in-Some-clause-rest : goal.returns-in-Some-clause-rest
returns-in-Some-clause-rest c =
    c.remove.ensures.items ∙ is_taken c.args.id c.self.inside.tokens.items c.args.self.now c.deref.result.now c.in-Some.place
    c.self.invariant c.self.view_is c.deref.ensures.value c.in-Some.ensures

pub returns-in-None-clause-value : goal.returns-in-None-clause-value
returns-in-None-clause-value c =
    none_is c.args.id c.self.inside.tokens.items c.args.self.now c.deref.result.now c.self.view_is c.deref.ensures.value c.in-None.ensures

pub returns-in-None-clause-rest : goal.returns-in-None-clause-rest
returns-in-None-clause-rest c =
    none_taken c.args.id c.self.inside.tokens.items c.args.self.now c.deref.result.now c.self.view_is c.deref.ensures.value c.in-None.ensures
