use Rattle.std.specs.Prelude.{is_ok}
use Rattle.names.specs.declared.kinds.WallKind.TheVariants.{Vbl, Mbl}
use Rattle.topology.specs.contracts.walls.Walls.{the_view}
use Rattle.topology.proofs.WallLemmas.{AreWalls-added, wall_fault-along}
use Rattle.topology.proofs.walls.Walls.add_wall.Goals as goal

pub invariant_of-self : goal.invariant_of-self
invariant_of-self c = (
  AreWalls-added (the_view c.self.inside) Vbl c.args.a c.args.b (is_ok c.insert_wall.result) c.insert_wall.new.walls.items
      (wall_fault-along _ _ _ _ _ _ c.self.view_is c.in-Vbl.is c.in_default.ensures) c.self.invariant.0
      (rw (← c.between-wall.ensures) c.insert_wall.ensures.items),
  c.self.invariant.1,
)

pub invariant_of-self-in-Mbl : goal.invariant_of-self-in-Mbl
invariant_of-self-in-Mbl c = (
  c.self.invariant.0,
  AreWalls-added (the_view c.self.inside) Mbl c.args.a c.args.b (is_ok c.insert_wall-in-Mbl.result) c.insert_wall-in-Mbl.new.walls.items
      (wall_fault-along _ _ _ _ _ _ c.self.view_is c.in-Mbl.is c.in_default.ensures) c.self.invariant.1
      (rw (← c.between-wall.ensures) c.insert_wall-in-Mbl.ensures.items),
)
