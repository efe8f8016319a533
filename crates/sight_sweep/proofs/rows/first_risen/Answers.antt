use Rattle.std.proofs.Common.{◌≡◌, ◌+◌, ◌-◌, ◌*◌, ◌≤◌, arith}
use Rattle.lattice.specs.Coordinates.{difference}
use Rattle.sight_sweep.proofs.RowsLemmas.{risen_row}
use Rattle.sight_sweep.proofs.rows.first_risen.Goals as goal

pub returns : goal.returns
returns c y k near h =
    let side : c.abs_diff.result ≡ difference c.args.eye.x c.args.end.x = omega (arith, c.abs_diff.ensures, c.across.ensures, c.across-2.ensures) in
    let rise : c.saturating_sub-rise.result ≡ c.args.eye.y - c.args.end.y = omega (arith, c.saturating_sub-rise.ensures, c.down.ensures, c.down-2.ensures) in
    let most : c.args.eye.y - (2 * y + 1) ≤ c.most_risen-reached.result =
    c.most_risen-reached.ensures.most (c.args.eye.y - (2 * y + 1)) k near (rw (side, rise) h) in
    rw (c.saturating_sub.ensures, c.down-3.ensures) (risen_row c.args.eye.y c.most_risen-reached.result y most)
