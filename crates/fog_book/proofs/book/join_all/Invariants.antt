use Rattle.fog_book.proofs.Joining.{AreJoinedTo}
use Rattle.fog_book.proofs.book.join_all.Given as goal

abbrev pub invariant-loop-place : goal.invariant-loop-place
invariant-loop-place l = AreJoinedTo l.place l.fn.sets.items l.seen l.sets.items
