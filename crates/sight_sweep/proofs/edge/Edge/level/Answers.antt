use Rattle.std.proofs.Common.{◌+◌, ◌*◌, arith}
use Rattle.sight_sweep.proofs.EdgeLemmas.{level_falls, level_rises, level_stays}
use Rattle.sight_sweep.proofs.edge.Edge.level.Goals as goal
use Rattle.sight_sweep.proofs.edge.Edge.level.Goals.{then-ax-bx, else-ax-bx, then-bx-ax, else-bx-ax}

pub returns-clause-turns : goal.returns-clause-turns
returns-clause-turns c x v hx hv =
    elim c.if-ax-bx.branch [
      | then-ax-bx w ↦ elim c.if-bx-ax.branch [
        | then-bx-ax z ↦ absurd (omega (arith, w.if-ax-bx.true, z.if-bx-ax.true))
        | else-bx-ax z ↦ rw (w.up-is, z.down-is) (level_rises c.args.ax c.args.bx c.args.y x (2 * v + 1) w.if-ax-bx.true c.requires hx)
      ]
      | else-ax-bx w ↦ elim c.if-bx-ax.branch [
        | then-bx-ax z ↦ rw (w.up-is, z.down-is) (level_falls c.args.ax c.args.bx c.args.y x (2 * v + 1) z.if-bx-ax.true (omega arith) hx)
        | else-bx-ax z ↦ rw (w.up-is, z.down-is) (level_stays c.args.ax c.args.bx c.args.y x (2 * v + 1) (omega arith) hx)
      ]
    ]
