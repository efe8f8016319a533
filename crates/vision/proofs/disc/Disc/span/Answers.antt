use Rattle.std.proofs.Common.{◌≡◌, ◌+◌, ◌*◌, arith}
use Rattle.lattice.specs.Coordinates.{difference}
use Rattle.vision.proofs.SpanLemmas.{none_in_row, span_tells}
use Rattle.vision.proofs.disc.Disc.span.Goals as goal

pub returns-then-away-halves-clause-cells : goal.returns-then-away-halves-clause-cells
returns-then-away-halves-clause-cells c =
    λ x inside. none_in_row c.args.self.now.middle x c.args.y c.args.self.now.halves (omega (arith, c.abs_diff-away.ensures, c.down.ensures.value))

pub returns-clause-cells : goal.returns-clause-cells
returns-clause-cells c =
    let away : c.abs_diff-away.result ≡ difference c.args.self.now.middle.y (2 * c.args.y + 1) = omega (arith, c.abs_diff-away.ensures, c.down.ensures.value) in
    λ x inside.
    span_tells c.args.self.now.middle x c.args.y c.args.self.now.halves c.root_near-root.result c.first_near.result c.past_near.result
    (omega (arith, away))
    (rw (c.square.ensures, c.square-2.ensures, away) at c.root_near-root.ensures.low)
    (rw (c.square.ensures, c.square-2.ensures, away) at c.root_near-root.ensures.high)
    (λ h. c.first_near.ensures.first x (omega (arith, h, c.across-middle.ensures.value)))
    (λ h. let near = c.first_near.ensures.near x h in omega (arith, near, c.across-middle.ensures.value))
    (λ h. c.past_near.ensures.past x inside (omega (arith, h, c.across-middle.ensures.value)))
    (λ h. let near = c.past_near.ensures.near x h in omega (arith, near, c.across-middle.ensures.value))
