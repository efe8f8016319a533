use Rattle.std.proofs.Common.{◌≡◌, List, ℕ, sym, subst}
use Rattle.std.specs.Vec.{with_items}
use Rattle.maps.specs.Maps.{Grid, IsMap, with_letters}
use Rattle.maps.specs.contracts.grid_map.GridMap.{the_view}
use Rattle.maps.proofs.LetterLemmas.{IsMap-with_letters, written_back}
use Rattle.maps.proofs.grid_map.GridMap.set_letters.Goals as goal

pub invariant_of-self : goal.invariant_of-self
invariant_of-self c =
    let old : Grid = the_view c.self.inside in
    let written : (with_items c.self.inside.letters c.set_letters.new.letters).items ≡ (with_letters c.args.rect c.args.letter old).letters =
    written_back c.size-size.result c.self.inside.walls.extent c.args.rect c.args.letter c.self.inside.letters.len c.self.inside.letters.items c.deref_mut.result.now
    c.set_letters.new.letters c.self.inside.letters.ok.0 c.deref_mut.ensures.value c.size-size.ensures c.self.invariant.count c.set_letters.ensures in
    subst (λ (ls : List ℕ). IsMap (record old { letters = ls })) (sym written) (IsMap-with_letters old c.args.rect c.args.letter c.requires c.self.invariant)

pub returns-clause-valid : goal.returns-clause-valid
returns-clause-valid c =
    let old : Grid = the_view c.self.inside in
    let written : (with_items c.self.inside.letters c.set_letters.new.letters).items ≡ (with_letters c.args.rect c.args.letter old).letters =
    written_back c.size-size.result c.self.inside.walls.extent c.args.rect c.args.letter c.self.inside.letters.len c.self.inside.letters.items c.deref_mut.result.now
    c.set_letters.new.letters c.self.inside.letters.ok.0 c.deref_mut.ensures.value c.size-size.ensures c.self.invariant.count c.set_letters.ensures in
    subst (λ (ls : List ℕ). IsMap (record old { letters = ls })) (sym written) (IsMap-with_letters old c.args.rect c.args.letter c.requires c.self.invariant)
