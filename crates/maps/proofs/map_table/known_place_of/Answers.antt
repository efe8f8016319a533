use Rattle.maps.proofs.MapLemmas.{not_missing}
use Rattle.maps.proofs.map_table.known_place_of.Goals as goal

pub unreachable-requires : goal.unreachable-requires
unreachable-requires c = not_missing c.args.name c.args.maps.now c.requires c.in-None.ensures
