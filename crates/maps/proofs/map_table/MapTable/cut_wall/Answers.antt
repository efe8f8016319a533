use Rattle.std.proofs.Common.{refl}
use Rattle.std.specs.Prelude.{◌≡◌, ◌↔◌, IsErr, false}
use Rattle.topology.specs.Order.{wall_between}
use Rattle.topology.specs.WallLists.{has_wall, walls_of}
use Rattle.maps.specs.Maps.{without_wall_of}
use Rattle.maps.proofs.MapLemmas.{AreMaps-set, IsPlace, changed_if_ok, kept_name, of_found}
use Rattle.maps.proofs.Laws.{ChangesOnly-if_ok}
use Rattle.maps.proofs.map_table.MapTable.cut_wall.Goals as goal

pub invariant_of-self : goal.invariant_of-self
invariant_of-self c =
    AreMaps-set c.self.inside.maps.items c.known_place_of-place.result c.index_mut.result.now c.cut_wall.new.self c.self.invariant c.index_mut.ensures.value
    (kept_name c.cut_wall.result (without_wall_of c.args.kind c.args.a c.args.b) c.index_mut.result.now c.cut_wall.new.self refl c.cut_wall.ensures.cut c.cut_wall.ensures.unchanged) c.cut_wall.ensures.valid

pub returns-clause-cut : goal.returns-clause-cut
returns-clause-cut c =
    let found : IsPlace c.args.map c.self.inside.maps.items c.args.self.now c.deref.result.now c.known_place_of-place.result c.index_mut.result.now = record {
      maps = c.self.invariant;
      view = c.self.view_is;
      same = c.deref.ensures.value;
      at = c.known_place_of-place.ensures.place;
      within = c.known_place_of-place.ensures.bound;
      is = c.index_mut.ensures.value;
    } in
    changed_if_ok c.cut_wall.result (without_wall_of c.args.kind c.args.a c.args.b) found c.cut_wall.new.self c.cut_wall.ensures.cut

pub returns-clause-maps : goal.returns-clause-maps
returns-clause-maps c =
    let found : IsPlace c.args.map c.self.inside.maps.items c.args.self.now c.deref.result.now c.known_place_of-place.result c.index_mut.result.now = record {
      maps = c.self.invariant;
      view = c.self.view_is;
      same = c.deref.ensures.value;
      at = c.known_place_of-place.ensures.place;
      within = c.known_place_of-place.ensures.bound;
      is = c.index_mut.ensures.value;
    } in
    ChangesOnly-if_ok c.cut_wall.result (without_wall_of c.args.kind c.args.a c.args.b) (λ m. refl) c.args.map c.args.self.now _
    (changed_if_ok c.cut_wall.result (without_wall_of c.args.kind c.args.a c.args.b) found c.cut_wall.new.self c.cut_wall.ensures.cut)

pub returns-clause-missing : goal.returns-clause-missing
returns-clause-missing c =
    let found : IsPlace c.args.map c.self.inside.maps.items c.args.self.now c.deref.result.now c.known_place_of-place.result c.index_mut.result.now = record {
      maps = c.self.invariant;
      view = c.self.view_is;
      same = c.deref.ensures.value;
      at = c.known_place_of-place.ensures.place;
      within = c.known_place_of-place.ensures.bound;
      is = c.index_mut.ensures.value;
    } in
    of_found (λ m. IsErr c.cut_wall.result ↔ (has_wall (wall_between c.args.a c.args.b) (walls_of m.walls c.args.kind) ≡ false)) found c.cut_wall.ensures.missing
