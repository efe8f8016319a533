use Rattle.std.proofs.Common.{subst, sym, Err}
use Rattle.std.specs.Prelude.{◌≡◌, ◌↔◌, IfSome, Option, true}
use Rattle.tokens.proofs.TokenLemmas.{changed_if_ok, in_order-if_ok, is_found}
use Rattle.tokens.specs.Properties.{is_full_for}
use Rattle.tokens.specs.Tokens.{props_of, with_prop}
use Rattle.tokens.specs.declared.token.Token.{Token}
use Rattle.tokens.specs.declared.props.PropFault.TheVariants.{PropertyLimit}
use Rattle.tokens.proofs.token_table.TokenTable.set_prop.Goals as goal

pub invariant_of-self : goal.invariant_of-self
invariant_of-self c =
    in_order-if_ok c.set_prop.result c.args.class c.args.name c.args.value c.args.id c.self.inside.tokens.items c.deref.result.now
    c.known_place_of-place.result c.index_mut.result.now c.set_prop.new.self c.self.invariant c.deref.ensures.value c.known_place_of-place.ensures.place c.known_place_of-place.ensures.bound
    c.index_mut.ensures.value c.set_prop.ensures.ok c.set_prop.ensures.unchanged

pub returns-clause-ok : goal.returns-clause-ok
returns-clause-ok c =
    changed_if_ok c.set_prop.result (with_prop c.args.class c.args.name c.args.value) c.args.id c.self.inside.tokens.items c.args.self.now c.deref.result.now
    c.known_place_of-place.result c.index_mut.result.now c.set_prop.new.self c.self.invariant c.self.view_is c.deref.ensures.value c.known_place_of-place.ensures.place c.known_place_of-place.ensures.bound
    c.index_mut.ensures.value c.set_prop.ensures.ok

pub returns-clause-limit : goal.returns-clause-limit
returns-clause-limit c =
    subst (λ (o : Option Token). IfSome o (λ t. (c.set_prop.result ≡ Err PropertyLimit) ↔ (is_full_for c.args.name (props_of c.args.class t) ≡ true)))
    (sym (is_found c.args.id c.self.inside.tokens.items c.args.self.now c.deref.result.now c.known_place_of-place.result c.index_mut.result.now
    c.self.view_is c.deref.ensures.value c.known_place_of-place.ensures.place c.known_place_of-place.ensures.bound c.index_mut.ensures.value))
    c.set_prop.ensures.limit
