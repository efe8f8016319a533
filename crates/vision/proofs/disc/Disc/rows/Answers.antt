use Rattle.vision.proofs.disc.Disc.rows.Goals as goal

pub returns-clause-first : goal.returns-clause-first
returns-clause-first c = rw c.down-middle.ensures.value at c.first_near.ensures.first

pub returns-clause-past : goal.returns-clause-past
returns-clause-past c = rw c.down-middle.ensures.value at c.past_near.ensures.past
