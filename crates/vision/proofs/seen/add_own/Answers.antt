use Rattle.std.proofs.Common.{◌∙◌, arith}
use Rattle.vision.proofs.AddingLemmas.{with_same}
use Rattle.vision.proofs.ToldLemmas.{smaller_night, smaller_range}
use Rattle.vision.proofs.seen.add_own.Goals as goal

pub returns-then-night-range : goal.returns-then-night-range
returns-then-night-range c =
    c.add_in_disc.ensures
    ∙ with_same c.args.out.now _ _ (λ x y _ _. smaller_night c.args.own.now c.args.range.now c.args.night.now x y c.requires.middle (omega arith))

pub returns-else-night-range : goal.returns-else-night-range
returns-else-night-range c =
    c.add_in_disc-else-night-range.ensures
    ∙ with_same c.args.out.now _ _ (λ x y _ _. smaller_range c.args.own.now c.args.range.now c.args.night.now x y c.requires.middle (omega arith))
