use Rattle.std.proofs.Common.{arith}
use Rattle.fog_book.proofs.Joining.{counted, sized_next, next, done}
use Rattle.fog_book.proofs.book.join_all.Goals as goal

pub index_mut-requires : goal.index_mut-requires
index_mut-requires c = omega (arith, c.loop-place-test.true, c.loop-place.invariant.count, counted c.args.sets.now.items c.args.seen.now c.requires)

pub join_found-requires : goal.join_found-requires
join_found-requires c = sized_next c.loop-place.place c.args.sets.now.items c.args.seen.now c.loop-place.sets.items c.index_mut.result.now c.index-seen-place.result c.loop-place.invariant c.requires c.loop-place-test.true c.index_mut.ensures.value c.index-seen-place.is

pub loop-place-preserved : goal.loop-place-preserved
loop-place-preserved c =
    next c.loop-place.place c.args.sets.now.items c.args.seen.now c.loop-place.sets.items c.index_mut.result.now c.index-seen-place.result _ c.loop-place.invariant
    (omega (arith, c.loop-place-test.true, c.loop-place.invariant.count, counted c.args.sets.now.items c.args.seen.now c.requires)) c.loop-place-test.true c.index_mut.ensures.value c.index-seen-place.is
    c.join_found.ensures

pub returns : goal.returns
returns c = done c.loop-place.place c.args.sets.now.items c.args.seen.now c.loop-place.sets.items c.loop-place.invariant c.requires (omega (arith, c.loop-place-test.false))
