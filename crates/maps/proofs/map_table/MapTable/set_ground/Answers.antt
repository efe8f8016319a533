use Rattle.std.proofs.Common.{ap, refl}
use Rattle.maps.specs.Maps.{Grid, SetsLetters, with_letters}
use Rattle.maps.proofs.MapLemmas.{AreMaps-set, IsPlace, is_changed}
use Rattle.maps.proofs.LetterLemmas.{SetsLetters-with_letters}
use Rattle.maps.proofs.Laws.{ChangesOnly-changed, changed_map}
use Rattle.maps.proofs.map_table.MapTable.set_ground.Goals as goal

pub invariant_of-self : goal.invariant_of-self
invariant_of-self c =
    AreMaps-set c.self.inside.maps.items c.known_place_of-place.result c.index_mut.result.now c.set_letters.new.self c.self.invariant
    c.index_mut.ensures.value (ap (λ (m : Grid). m.name) c.set_letters.ensures.value) c.set_letters.ensures.valid

pub returns-clause-value : goal.returns-clause-value
returns-clause-value c =
    let found : IsPlace c.args.map c.self.inside.maps.items c.args.self.now c.deref.result.now c.known_place_of-place.result c.index_mut.result.now = record {
      maps = c.self.invariant;
      view = c.self.view_is;
      same = c.deref.ensures.value;
      at = c.known_place_of-place.ensures.place;
      within = c.known_place_of-place.ensures.bound;
      is = c.index_mut.ensures.value;
    } in
    is_changed (with_letters c.args.rect c.args.letter) found c.set_letters.new.self c.set_letters.ensures.value

pub returns-clause-maps : goal.returns-clause-maps
returns-clause-maps c =
    let found : IsPlace c.args.map c.self.inside.maps.items c.args.self.now c.deref.result.now c.known_place_of-place.result c.index_mut.result.now = record {
      maps = c.self.invariant;
      view = c.self.view_is;
      same = c.deref.ensures.value;
      at = c.known_place_of-place.ensures.place;
      within = c.known_place_of-place.ensures.bound;
      is = c.index_mut.ensures.value;
    } in
    ChangesOnly-changed (with_letters c.args.rect c.args.letter) (λ m. refl) c.args.map c.args.self.now _ (is_changed (with_letters c.args.rect c.args.letter) found c.set_letters.new.self c.set_letters.ensures.value)

pub returns-clause-letters : goal.returns-clause-letters
returns-clause-letters c =
    let found : IsPlace c.args.map c.self.inside.maps.items c.args.self.now c.deref.result.now c.known_place_of-place.result c.index_mut.result.now = record {
      maps = c.self.invariant;
      view = c.self.view_is;
      same = c.deref.ensures.value;
      at = c.known_place_of-place.ensures.place;
      within = c.known_place_of-place.ensures.bound;
      is = c.index_mut.ensures.value;
    } in
    changed_map (SetsLetters c.args.rect c.args.letter) (with_letters c.args.rect c.args.letter) (SetsLetters-with_letters c.args.rect c.args.letter) c.args.map
    c.args.self.now _
    (ChangesOnly-changed (with_letters c.args.rect c.args.letter) (λ m. refl) c.args.map c.args.self.now _ (is_changed (with_letters c.args.rect c.args.letter) found c.set_letters.new.self c.set_letters.ensures.value))
