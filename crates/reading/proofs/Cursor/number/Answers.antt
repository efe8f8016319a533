use Rattle.std.proofs.Common.{◌<◌, ◌≤◌, ◌+◌, ◌^◌, arith}
use Rattle.std.proofs.Math.Nat.{pow-le-pow_right}
use Rattle.reading.proofs.Cursor.number.Goals as goal

pub returns-then-first-eq48-clause-bound : goal.returns-then-first-eq48-clause-bound
returns-then-first-eq48-clause-bound c =
    let ten : 0 < 10 = omega arith in let up : 0 ≤ c.args.further + 1 = omega arith in
    let k : 1 ≤ 10 ^ (c.args.further + 1) = pow-le-pow_right ten up in omega arith
