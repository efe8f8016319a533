use Rattle.std.specs.Prelude.{is_ok}
use Rattle.tokens.proofs.TokenLemmas.{in_order-made, put_if_ok}
use Rattle.tokens.proofs.token_table.TokenTable.make.Goals as goal

pub invariant_of-self : goal.invariant_of-self
invariant_of-self c =
    in_order-made (is_ok c.insert_at.result) c.args.token c.self.inside.tokens.items c.args.self.now c.deref.result.now c.insert_at.new.tokens.items
    c.place_for-place.result c.self.invariant c.self.view_is c.deref.ensures.value c.requires c.place_for-place.ensures.place c.insert_at.ensures.items

pub returns-clause-ok : goal.returns-clause-ok
returns-clause-ok c =
    put_if_ok c.insert_at.result c.args.token c.self.inside.tokens.items c.args.self.now c.deref.result.now c.insert_at.new.tokens.items
    c.place_for-place.result c.self.view_is c.deref.ensures.value c.place_for-place.ensures.place c.insert_at.ensures.items
