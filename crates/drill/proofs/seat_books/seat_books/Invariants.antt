use Rattle.std.proofs.Common.{◌≡◌, map}
use Rattle.std.specs.List.{range_with_len}
use Rattle.drill.specs.Campaign.{book_at}
use Rattle.drill.proofs.seat_books.seat_books.Given as goal

abbrev pub invariant-loop-number : goal.invariant-loop-number
invariant-loop-number l = l.books.items ≡ map book_at (range_with_len 0 l.number)
