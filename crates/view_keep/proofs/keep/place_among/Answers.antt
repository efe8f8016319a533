use Rattle.std.proofs.Common.{◌≡◌, ◌+◌, ◌∙◌, suc, ap, arith, length, set, get_or}
use Rattle.view_marks.specs.Placed.{placed_token}
use Rattle.view_keep.proofs.Placing.{all_written, first_mapped, one_more}
use Rattle.view_keep.proofs.keep.place_among.Goals as goal

pub loop-token-preserved : goal.loop-token-preserved
loop-token-preserved c =
    let count = ap length c.deref_mut-token-items.ensures.value in
    let within = c.loop-token-test.true in
    let next : suc c.loop-token.token-index ≡ c.loop-token.token-index + 1 = omega arith in
    ap (set c.loop-token.token-items c.loop-token.token-index) c.place_one.ensures
    ∙ ap (λ items. set items c.loop-token.token-index (placed_token c.args.placed.now (get_or items c.loop-token.token-index c.token-item.result))) c.loop-token.invariant
    ∙ one_more (placed_token c.args.placed.now) c.loop-token.token-index c.args.tokens.now.items c.token-item.result (omega (arith, count, within))
    ∙ ap (λ n. first_mapped (placed_token c.args.placed.now) n c.args.tokens.now.items) next

pub returns : goal.returns
returns c =
    let count = ap length c.deref_mut-token-items.ensures.value in
    let len = c.deref_mut-token-items.ensures.len in
    let past = c.loop-token-test.false in
    all_written (placed_token c.args.placed.now) c.args.tokens.now.len c.loop-token.token-index c.args.tokens.now.items c.loop-token.token-items c.loop-token.invariant
    (omega (arith, count, past)) (omega (arith, count, len))
