use Rattle.std.specs.Prelude.{is_ok}
use Rattle.maps.specs.Maps.{new_map}
use Rattle.maps.proofs.MapLemmas.{AreMaps-made, IsMade, absent_before, made_if_ok}
use Rattle.maps.proofs.Laws.{AddsMap-if_ok}
use Rattle.maps.proofs.map_table.MapTable.add.Goals as goal

pub invariant_of-self : goal.invariant_of-self
invariant_of-self c =
    let made : IsMade c.args.name c.args.size c.self.inside.maps.items c.args.self.now c.deref.result.now c.deref-2.result.now c.place_for-place.result c.in-Ok.map = record {
      maps = c.self.invariant;
      view = c.self.view_is;
      same = c.deref.ensures.value;
      same_again = c.deref-2.ensures.value;
      free = c.in_default.ensures;
      is = c.in-Ok.ensures.value;
      valid = c.in-Ok.ensures.valid;
      at = c.place_for-place.ensures.place;
    } in
    AreMaps-made (is_ok c.insert_at.result) made c.insert_at.new.maps.items c.insert_at.ensures.items

pub returns-clause-value : goal.returns-clause-value
returns-clause-value c =
    let made : IsMade c.args.name c.args.size c.self.inside.maps.items c.args.self.now c.deref.result.now c.deref-2.result.now c.place_for-place.result c.in-Ok.map = record {
      maps = c.self.invariant;
      view = c.self.view_is;
      same = c.deref.ensures.value;
      same_again = c.deref-2.ensures.value;
      free = c.in_default.ensures;
      is = c.in-Ok.ensures.value;
      valid = c.in-Ok.ensures.valid;
      at = c.place_for-place.ensures.place;
    } in
    made_if_ok c.insert_at.result made c.insert_at.new.maps.items c.insert_at.ensures.items

pub returns-clause-maps : goal.returns-clause-maps
returns-clause-maps c =
    let made : IsMade c.args.name c.args.size c.self.inside.maps.items c.args.self.now c.deref.result.now c.deref-2.result.now c.place_for-place.result c.in-Ok.map = record {
      maps = c.self.invariant;
      view = c.self.view_is;
      same = c.deref.ensures.value;
      same_again = c.deref-2.ensures.value;
      free = c.in_default.ensures;
      is = c.in-Ok.ensures.value;
      valid = c.in-Ok.ensures.valid;
      at = c.place_for-place.ensures.place;
    } in
    AddsMap-if_ok c.insert_at.result (new_map c.args.name c.args.size) c.args.self.now _ (absent_before made)
    (made_if_ok c.insert_at.result made c.insert_at.new.maps.items c.insert_at.ensures.items)
