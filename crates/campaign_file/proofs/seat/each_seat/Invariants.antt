use Rattle.campaign_file.proofs.Seats.{AreReadTo}
use Rattle.campaign_file.proofs.seat.each_seat.Given as goal

abbrev pub invariant-loop-place : goal.invariant-loop-place
invariant-loop-place l = AreReadTo l.values l.fn.scene l.place l.scene l.books.items
