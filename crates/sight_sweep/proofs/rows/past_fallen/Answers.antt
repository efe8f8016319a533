use Rattle.std.proofs.Common.{◌≡◌, ◌+◌, ◌-◌, ◌*◌, ◌≤◌, arith}
use Rattle.lattice.specs.Coordinates.{difference}
use Rattle.sight_sweep.proofs.RowsLemmas.{fallen_row}
use Rattle.sight_sweep.proofs.rows.past_fallen.Goals as goal

pub returns : goal.returns
returns c y k inside near h =
    let side : c.abs_diff.result ≡ difference c.args.eye.x c.args.end.x = omega (arith, c.abs_diff.ensures, c.across.ensures, c.across-2.ensures) in
    let fall : c.saturating_sub-fall.result ≡ c.args.end.y - c.args.eye.y = omega (arith, c.saturating_sub-fall.ensures, c.down.ensures, c.down-2.ensures) in
    let most : 2 * y + 1 - c.args.eye.y ≤ c.most_risen-reached.result =
    c.most_risen-reached.ensures.most (2 * y + 1 - c.args.eye.y) k near (rw (side, fall) h) in
    rw (c.min.ensures, c.down-3.ensures) (fallen_row c.args.eye.y c.most_risen-reached.result y inside most)
