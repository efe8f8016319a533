use Rattle.std.proofs.Common.{refl}
use Rattle.tokens.proofs.TokenLemmas.{is_changed, in_order-is_changed}
use Rattle.tokens.specs.Tokens.{with_light}
use Rattle.tokens.proofs.token_table.TokenTable.set_light.Goals as goal

pub invariant_of-self : goal.invariant_of-self
invariant_of-self c =
    in_order-is_changed (with_light c.args.light) (λ t. refl) c.args.id c.self.inside.tokens.items c.deref.result.now c.known_place_of-place.result
    c.index_mut-token.result.now _ c.self.invariant c.deref.ensures.value c.known_place_of-place.ensures.place c.known_place_of-place.ensures.bound
    c.index_mut-token.ensures.value refl

pub returns : goal.returns
returns c =
    is_changed (with_light c.args.light) c.args.id c.self.inside.tokens.items c.args.self.now c.deref.result.now c.known_place_of-place.result
    c.index_mut-token.result.now _ c.self.invariant c.self.view_is c.deref.ensures.value c.known_place_of-place.ensures.place c.known_place_of-place.ensures.bound
    c.index_mut-token.ensures.value refl
