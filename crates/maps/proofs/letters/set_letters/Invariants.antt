use Rattle.maps.proofs.LetterLemmas.{AreSetBefore}
use Rattle.maps.proofs.letters.set_letters.Given as goal

abbrev pub invariant-loop-place : goal.invariant-loop-place
invariant-loop-place l = AreSetBefore l.fn.size l.rect l.letter l.initial.letters l.letters l.place
