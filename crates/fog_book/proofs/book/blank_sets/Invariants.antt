use Rattle.std.proofs.Common.{◌≡◌}
use Rattle.fog_book.specs.Exposures.{blank_sets}
use Rattle.fog_book.proofs.book.blank_sets.Given as goal

abbrev pub invariant-loop-number : goal.invariant-loop-number
invariant-loop-number l = l.sets.items ≡ blank_sets l.number l.map l.size
