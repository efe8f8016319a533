use Rattle.std.proofs.Common.{◌≡◌, take}
use Rattle.world.proofs.world.copied.Given as goal

abbrev pub invariant-loop-book : goal.invariant-loop-book
invariant-loop-book l = l.copy.items ≡ take l.book-index l.books.items
