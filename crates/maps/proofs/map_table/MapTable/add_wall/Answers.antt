use Rattle.std.proofs.Common.{refl}
use Rattle.std.specs.Prelude.{◌≡◌, None, OnOk, IfErr}
use Rattle.topology.specs.WallFaults.{IsFaultOf, wall_fault}
use Rattle.maps.specs.Maps.{with_wall_of}
use Rattle.maps.proofs.MapLemmas.{AreMaps-set, IsPlace, changed_if_ok, kept_name, of_found}
use Rattle.maps.proofs.Laws.{ChangesOnly-if_ok}
use Rattle.maps.proofs.map_table.MapTable.add_wall.Goals as goal

pub invariant_of-self : goal.invariant_of-self
invariant_of-self c =
    AreMaps-set c.self.inside.maps.items c.known_place_of-place.result c.index_mut.result.now c.add_wall.new.self c.self.invariant c.index_mut.ensures.value
    (kept_name c.add_wall.result (with_wall_of c.args.kind c.args.a c.args.b) c.index_mut.result.now c.add_wall.new.self refl c.add_wall.ensures.added c.add_wall.ensures.unchanged) c.add_wall.ensures.valid

pub returns-clause-added : goal.returns-clause-added
returns-clause-added c =
    let found : IsPlace c.args.map c.self.inside.maps.items c.args.self.now c.deref.result.now c.known_place_of-place.result c.index_mut.result.now = record {
      maps = c.self.invariant;
      view = c.self.view_is;
      same = c.deref.ensures.value;
      at = c.known_place_of-place.ensures.place;
      within = c.known_place_of-place.ensures.bound;
      is = c.index_mut.ensures.value;
    } in
    changed_if_ok c.add_wall.result (with_wall_of c.args.kind c.args.a c.args.b) found c.add_wall.new.self c.add_wall.ensures.added

pub returns-clause-maps : goal.returns-clause-maps
returns-clause-maps c =
    let found : IsPlace c.args.map c.self.inside.maps.items c.args.self.now c.deref.result.now c.known_place_of-place.result c.index_mut.result.now = record {
      maps = c.self.invariant;
      view = c.self.view_is;
      same = c.deref.ensures.value;
      at = c.known_place_of-place.ensures.place;
      within = c.known_place_of-place.ensures.bound;
      is = c.index_mut.ensures.value;
    } in
    ChangesOnly-if_ok c.add_wall.result (with_wall_of c.args.kind c.args.a c.args.b) (λ m. refl) c.args.map c.args.self.now _
    (changed_if_ok c.add_wall.result (with_wall_of c.args.kind c.args.a c.args.b) found c.add_wall.new.self c.add_wall.ensures.added)

pub returns-clause-ok : goal.returns-clause-ok
returns-clause-ok c =
    let found : IsPlace c.args.map c.self.inside.maps.items c.args.self.now c.deref.result.now c.known_place_of-place.result c.index_mut.result.now = record {
      maps = c.self.invariant;
      view = c.self.view_is;
      same = c.deref.ensures.value;
      at = c.known_place_of-place.ensures.place;
      within = c.known_place_of-place.ensures.bound;
      is = c.index_mut.ensures.value;
    } in
    of_found (λ m. OnOk c.add_wall.result (wall_fault m.walls c.args.kind c.args.a c.args.b ≡ None)) found c.add_wall.ensures.ok

pub returns-clause-fault : goal.returns-clause-fault
returns-clause-fault c =
    let found : IsPlace c.args.map c.self.inside.maps.items c.args.self.now c.deref.result.now c.known_place_of-place.result c.index_mut.result.now = record {
      maps = c.self.invariant;
      view = c.self.view_is;
      same = c.deref.ensures.value;
      at = c.known_place_of-place.ensures.place;
      within = c.known_place_of-place.ensures.bound;
      is = c.index_mut.ensures.value;
    } in
    of_found (λ m. IfErr c.add_wall.result (IsFaultOf (wall_fault m.walls c.args.kind c.args.a c.args.b))) found c.add_wall.ensures.fault
