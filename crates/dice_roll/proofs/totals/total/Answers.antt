use Rattle.std.proofs.Common.{arith, rules, w64, FitsSigned}
use Rattle.std.proofs.lemmas.Int.{to_z-of_z}
use Rattle.dice_roll.proofs.RollingTerms.{none_yet, next}
use Rattle.dice_roll.proofs.totals.total.Goals as goal

pub loop-term-init : goal.loop-term-init
loop-term-init c = none_yet c.args.stream.now c.args.terms.now

pub loop-term-preserved : goal.loop-term-preserved
loop-term-preserved c =
    let so_far = rw c.loop-term.total-is at c.loop-term.invariant in
    let k = next c.args.stream.now c.loop-term.stream c.part_worth.new.stream c.args.terms.now c.loop-term.term-index c.loop-term.total _ c.in_ok-value.value c.loop-term-test.true so_far c.in_ok-value.ensures.value (omega arith) c.in_ok-value.ensures.stream in
    let total = rw (c.loop-term.total-is) at c.with_term-total.ensures in
    let fits : FitsSigned w64 c.with_term-total.result = search rules in
    rw (to_z-of_z w64 c.with_term-total.result fits, total) k
