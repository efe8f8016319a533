use Rattle.std.proofs.Common.{◌<◌, ◌≤◌, min, max, arith}
use Rattle.sight_sweep.proofs.PaintLemmas.{shadow_rows}
use Rattle.sight_sweep.proofs.RowsLemmas.{beside_left, beside_right}
use Rattle.sight_sweep.proofs.rows.shadow_rows.Goals as goal

pub returns-then-across-min-clause-cover : goal.returns-then-across-min-clause-cover
returns-then-across-min-clause-cover c x y hy reach shadow =
    let near = c.near_rows-near.ensures.cover y hy (shadow_rows c.args.eye c.args.a c.args.b x y c.requires.spread reach shadow) in
    let right : c.args.eye.x < min c.args.a.x c.args.b.x = omega (arith, c.if-across-min.true, c.across.ensures, c.min.ensures, c.across-2.ensures, c.across-3.ensures) in
    let beside = beside_right c.args.eye c.args.a c.args.b x y c.requires.spread reach shadow right in
    let risen : c.first_risen.result ≤ y = c.first_risen.ensures y _ beside.near_up beside.risen in
    let fallen : y < c.past_fallen.result = c.past_fallen.ensures y _ (omega (arith, c.requires.few)) beside.near_down beside.fallen in
    (omega (arith, c.max.ensures, near.0), omega (arith, c.min-then-across-min.ensures, near.1))

pub returns-then-max-across-clause-cover : goal.returns-then-max-across-clause-cover
returns-then-max-across-clause-cover c x y hy reach shadow =
    let near = c.near_rows-near.ensures.cover y hy (shadow_rows c.args.eye c.args.a c.args.b x y c.requires.spread reach shadow) in
    let left : max c.args.a.x c.args.b.x < c.args.eye.x = omega (arith, c.if-max-across.true, c.across-else-across-min.ensures, c.across-else-across-min-2.ensures, c.max-else-across-min.ensures, c.across-else-across-min-3.ensures) in
    let beside = beside_left c.args.eye c.args.a c.args.b x y c.requires.spread reach shadow left in
    let risen : c.first_risen-then-max-across.result ≤ y = c.first_risen-then-max-across.ensures y _ beside.near_up beside.risen in
    let fallen : y < c.past_fallen-then-max-across.result = c.past_fallen-then-max-across.ensures y _ (omega (arith, c.requires.few)) beside.near_down beside.fallen in
    (omega (arith, c.max-then-max-across.ensures, near.0), omega (arith, c.min-then-max-across.ensures, near.1))

pub returns-else-max-across-clause-cover : goal.returns-else-max-across-clause-cover
returns-else-max-across-clause-cover c x y hy reach shadow =
    c.near_rows-near.ensures.cover y hy (shadow_rows c.args.eye c.args.a c.args.b x y c.requires.spread reach shadow)
