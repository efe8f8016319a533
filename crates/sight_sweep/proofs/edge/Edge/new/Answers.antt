use Rattle.std.proofs.Common.{◌≡◌, ◌<◌, ◌*◌, true, false, nat_lt, arith}
use Rattle.std.proofs.lemmas.Bool.Decides.{nat_tests}
use Rattle.sight_sweep.proofs.EdgeLemmas.{lower_small, lower_turns, upper_small, upper_turns}
use Rattle.sight_sweep.proofs.edge.Edge.new.Goals as goal
use Rattle.sight_sweep.proofs.edge.Edge.new.Goals.{then-from, else-from}

pub returns-clause-turns : goal.returns-clause-turns
returns-clause-turns c x y hx hy =
    elim c.if-from.branch [
      | then-from w ↦
          let lt : c.args.b.y < c.args.a.y = grind (arith, nat_tests, w.if-from.true) in
          let rises : nat_lt c.args.b.y c.args.a.y ≡ true = grind (arith, nat_tests) in
          rw (w.more-is, c.across.ensures, c.down.ensures, c.across-2.ensures, c.down-2.ensures, rises)
          (lower_turns c.args.a.x c.args.a.y c.args.b.x c.args.b.y (2 * c.abs_diff-gap.result) c.scale_of.result x y
          (omega arith) (omega arith) (omega arith) hy lt (omega (arith, c.abs_diff-gap.ensures)) c.scale_of.ensures)
      | else-from w ↦
          let lt : c.args.a.y < c.args.b.y = grind (arith, nat_tests, w.if-from.false) in
          let falls : nat_lt c.args.b.y c.args.a.y ≡ false = grind (arith, nat_tests) in
          rw (w.more-is, c.across.ensures, c.down.ensures, c.across-2.ensures, c.down-2.ensures, falls)
          (upper_turns c.args.a.x c.args.a.y c.args.b.x c.args.b.y (2 * c.abs_diff-gap.result) c.scale_of.result x y
          (omega arith) (omega arith) (omega arith) (omega arith) hy lt (omega (arith, c.abs_diff-gap.ensures)) c.scale_of.ensures)
    ]

pub returns-clause-small : goal.returns-clause-small
returns-clause-small c =
    elim c.if-from.branch [
      | then-from w ↦
          let lt : c.args.b.y < c.args.a.y = grind (arith, nat_tests, w.if-from.true) in
          let rises : nat_lt c.args.b.y c.args.a.y ≡ true = grind (arith, nat_tests) in
          rw (w.more-is, c.across.ensures, c.down.ensures, c.across-2.ensures, c.down-2.ensures, rises)
          (lower_small c.args.a.x c.args.a.y c.args.b.x c.args.b.y (2 * c.abs_diff-gap.result) c.scale_of.result
          (omega arith) (omega arith) (omega arith) lt (omega (arith, c.abs_diff-gap.ensures)) c.scale_of.ensures)
      | else-from w ↦
          let lt : c.args.a.y < c.args.b.y = grind (arith, nat_tests, w.if-from.false) in
          let falls : nat_lt c.args.b.y c.args.a.y ≡ false = grind (arith, nat_tests) in
          rw (w.more-is, c.across.ensures, c.down.ensures, c.across-2.ensures, c.down-2.ensures, falls)
          (upper_small c.args.a.x c.args.a.y c.args.b.x c.args.b.y (2 * c.abs_diff-gap.result) c.scale_of.result
          (omega arith) (omega arith) (omega arith) (omega arith) lt (omega (arith, c.abs_diff-gap.ensures)) c.scale_of.ensures)
    ]
