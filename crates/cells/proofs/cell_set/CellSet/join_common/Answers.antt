use Rattle.cells.specs.contracts.cell_set.CellSet.{the_view}
use Rattle.cells.proofs.CommonRowLemmas.{common_joined}
use Rattle.cells.proofs.cell_set.CellSet.join_common.Goals as goal

pub invariant_of-self : goal.invariant_of-self
invariant_of-self c = (
  c.self.invariant.0,
  (common_joined (the_view c.self.inside) c.args.one.now c.args.other.now c.args.y c.args.first c.args.past _ _ _ _ c.self.invariant.1 c.row.ensures.shaped.1
      (rw (← c.self.view_is) at c.requires.one) (rw (← c.self.view_is) at c.requires.row) c.index_mut-row.ensures.value c.row.ensures.value c.row-2.ensures.value c.columns.ensures).0,
)

pub returns : goal.returns
returns c =
    rw (← c.self.view_is)
    (common_joined (the_view c.self.inside) c.args.one.now c.args.other.now c.args.y c.args.first c.args.past _ _ _ _ c.self.invariant.1 c.row.ensures.shaped.1
    (rw (← c.self.view_is) at c.requires.one) (rw (← c.self.view_is) at c.requires.row) c.index_mut-row.ensures.value c.row.ensures.value c.row-2.ensures.value c.columns.ensures).1
