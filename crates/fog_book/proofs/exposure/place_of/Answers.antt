use Rattle.fog_book.specs.Exposures.{is_of}
use Rattle.fog_book.proofs.Changes.{none_is_there, place_below, place_found}
use Rattle.fog_book.proofs.exposure.place_of.Goals as goal

pub unreachable-requires : goal.unreachable-requires
unreachable-requires c = none_is_there c.args.seat c.args.map c.args.sets.now c.requires c.in-None.ensures

pub returns-clause-place : goal.returns-clause-place
returns-clause-place c = place_found (is_of c.args.seat c.args.map) c.args.sets.now c.in-Some.place c.in-Some.ensures

pub returns-clause-bound : goal.returns-clause-bound
returns-clause-bound c = place_below (is_of c.args.seat c.args.map) c.args.sets.now c.in-Some.place c.in-Some.ensures
