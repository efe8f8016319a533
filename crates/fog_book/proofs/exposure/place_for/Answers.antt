use Rattle.fog_book.proofs.Order.{end_place}
use Rattle.fog_book.proofs.exposure.place_for.Goals as goal

pub returns-in-None-clause-place : goal.returns-in-None-clause-place
returns-in-None-clause-place c = end_place c.args.map c.args.sets.now c.in-None.ensures
