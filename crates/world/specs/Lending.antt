-- A world that lends the stream of a seat's dice.
use Rattle.std.specs.Prelude.{ℕ}
use Rattle.std.specs.Borrow.{Lends, MutBor, Fml}
use Rattle.seat_random.specs.Stream.{Stream}
use Rattle.seat_random.specs.contracts.SeatStream.{the_row as stream_row}
use Rattle.seats.specs.Book.{with_stream}
use Rattle.world.specs.World.{World, with_book}
use Rattle.world.specs.contracts.world.World.{the_row}

-- w ends with the last value behind r as the stream of that seat; all else of it stays
abbrev pub LendsStream : MutBor World → ℕ → MutBor Stream → Fml
LendsStream w seat r = Lends the_row stream_row w r (λ stream. with_book seat (λ book. with_stream book stream) w.now)
