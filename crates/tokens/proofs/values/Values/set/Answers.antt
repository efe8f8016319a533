use Rattle.tokens.proofs.PropertyLemmas.{limits_if_ok}
use Rattle.tokens.proofs.values.Values.set.Goals as goal

pub invariant_of-self : goal.invariant_of-self
invariant_of-self c =
    limits_if_ok c.put_value.result c.args.name c.args.value c.self.inside.values.entries c.args.self.now c.put_value.new.values.entries
    c.self.view_is c.if-is_full_for.ensures c.self.invariant c.requires c.put_value.ensures.entries c.put_value.ensures.unchanged
