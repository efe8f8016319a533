use Rattle.std.proofs.Common.{◌≡◌, ◌<◌, true, length, min, arith, rules}
use Rattle.transcript_check.proofs.ItemLists.{items_more, items_same, items_end}
use Rattle.transcript_check.proofs.comparing.first_difference.Goals as goal

pub loop-place-preserved : goal.loop-place-preserved
loop-place-preserved c =
    let items = c.args.items.now in
    let others = c.args.others.now in
    let place = c.loop-place.place in
    let common : c.min-common.result ≡ min (length items) (length others) = search rules in
    let within : place < length items = omega (arith, c.loop-place-test.true, common) in
    let within2 : place < length others = omega (arith, c.loop-place-test.true, common) in
    let same : c.same_item.result ≡ true = search rules in
    items_more items others place c.index-items-place.result c.index-others-place.result c.loop-place.invariant within within2 c.index-items-place.is c.index-others-place.is (c.same_item.ensures.0 same)

pub returns-then-items-others-clause-none : goal.returns-then-items-others-clause-none
returns-then-items-others-clause-none c =
    let common : c.min-common.result ≡ min (length c.args.items.now) (length c.args.others.now) = search rules in
    let as_many : length c.args.items.now ≡ length c.args.others.now = search rules in
    items_same c.args.items.now c.args.others.now c.min-common.result common as_many (λ k h. c.loop-place.invariant k (omega (arith, h, c.loop-place-test.false)))

pub returns-else-items-others-clause-some : goal.returns-else-items-others-clause-some
returns-else-items-others-clause-some c =
    let common : c.min-common.result ≡ min (length c.args.items.now) (length c.args.others.now) = search rules in
    items_end c.args.items.now c.args.others.now c.min-common.result common c.if-items-others.false (λ k h. c.loop-place.invariant k (omega (arith, h, c.loop-place-test.false)))
