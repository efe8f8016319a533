-- A book that lends the stream of its dice.
use Rattle.std.specs.Borrow.{Lends, MutBor, Fml}
use Rattle.seat_random.specs.Stream.{Stream}
use Rattle.seat_random.specs.contracts.SeatStream.{the_row as stream_row}
use Rattle.seats.specs.contracts.seat_book.SeatBook.{the_row}
use Rattle.seats.specs.Book.{Book, with_stream}

-- b ends with the last value behind r as its stream; all else of it stays
abbrev pub LendsStream : MutBor Book → MutBor Stream → Fml
LendsStream b r = Lends the_row stream_row b r (with_stream b.now)
