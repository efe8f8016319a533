use Rattle.std.proofs.Common.{◌≡◌, map}
use Rattle.std.specs.List.{range_with_len}
use Rattle.drill.specs.Numbered.{tag_at}
use Rattle.drill.proofs.seat_books.with_tags.Given as goal

abbrev pub invariant-loop-number : goal.invariant-loop-number
invariant-loop-number l = l.book ≡ record l.initial.book { tags = map tag_at (range_with_len 0 l.number) }
