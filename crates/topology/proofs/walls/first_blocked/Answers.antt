use Rattle.std.proofs.Common.{arith}
use Rattle.topology.proofs.PathLemmas.{first_is, none_is, one_more_free}
use Rattle.topology.proofs.walls.first_blocked.Goals as goal

pub returns-then-is_blocked : goal.returns-then-is_blocked
returns-then-is_blocked c =
    first_is c.args.walls.now c.args.path.now c.loop-next.next c.index-path-next.result c.index-path-next-in-loop-next.result
    (omega arith) (omega arith) c.loop-next.invariant c.index-path-next.is c.index-path-next-in-loop-next.is c.if-is_blocked.ensures

pub loop-next-preserved : goal.loop-next-preserved
loop-next-preserved c =
    one_more_free c.args.walls.now c.args.path.now c.loop-next.next c.index-path-next.result c.index-path-next-in-loop-next.result
    (omega arith) (omega arith) c.loop-next.invariant c.index-path-next.is c.index-path-next-in-loop-next.is c.if-is_blocked.ensures

pub returns : goal.returns
returns c = none_is c.args.walls.now c.args.path.now c.loop-next.next (omega arith) c.loop-next.invariant
