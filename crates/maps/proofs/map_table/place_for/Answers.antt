use Rattle.maps.proofs.MapLemmas.{end_place}
use Rattle.maps.specs.Maps.{is_behind}
use Rattle.maps.proofs.map_table.place_for.Goals as goal

pub returns-in-None-clause-place : goal.returns-in-None-clause-place
returns-in-None-clause-place c = end_place (is_behind c.args.name) c.args.maps.now c.in-None.ensures
