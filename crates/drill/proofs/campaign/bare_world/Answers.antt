use Rattle.drill.proofs.Maps.{bare_is, opening_books}
use Rattle.drill.proofs.campaign.bare_world.Goals as goal

pub open-requires : goal.open-requires
open-requires c = opening_books c.in_ok-seat_books.field-0.items c.in_ok-seat_books.ensures

pub returns : goal.returns
returns c = bare_is c.in_ok-seat_books.field-0.items c.in_ok-world.world c.set_types.new.world c.set_map.new.world c.in_ok-seat_books.ensures c.in_ok-world.ensures c.in_ok-set_types.ensures c.in_ok-set_map.ensures
