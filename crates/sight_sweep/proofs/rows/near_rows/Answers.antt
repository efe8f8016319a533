use Rattle.sight_sweep.proofs.rows.near_rows.Goals as goal

pub returns-clause-cover : goal.returns-clause-cover
returns-clause-cover c y hy row = (
  c.first_row-first.ensures y (rw c.down.ensures row.after) (rw (c.down.ensures, c.min.ensures, c.down-2.ensures, c.down-3.ensures) row.below),
  c.past_row-past.ensures.cover y hy (rw c.down-4.ensures row.before)
      (rw (c.down-4.ensures, c.max.ensures, c.down-5.ensures, c.down-6.ensures) row.above),
)
