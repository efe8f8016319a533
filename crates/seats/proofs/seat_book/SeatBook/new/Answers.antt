-- A new book has no tags.
use Rattle.seats.proofs.Tags.{kept_fresh}
use Rattle.seats.proofs.seat_book.SeatBook.new.Goals as goal

pub invariant_of-result : goal.invariant_of-result
invariant_of-result c = rw c.new-2.ensures.items (kept_fresh c.args.seat)
