use Rattle.std.proofs.Common.{arith, ◌∙◌}
use Rattle.maps.proofs.LetterLemmas.{ends_at_rows}
use Rattle.maps.proofs.letters.set_letters.Goals as goal

pub returns : goal.returns
returns c =
    ends_at_rows c.args.size c.args.rect c.args.letter c.args.letters.now c.loop-place.letters c.loop-place.place c.min-end.result
    (omega (arith, c.w.ensures)) (c.loop-place.auto.letters ∙ c.requires)
    (grind (arith, c.min-end.ensures, c.from.ensures, c.from-top.ensures, c.from-width.ensures, c.w.ensures, c.loop-place.auto)) c.loop-place-test.false c.loop-place.invariant
