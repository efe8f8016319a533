use Rattle.topology.proofs.PathLemmas.{first_block_is_first, no_block_is_free}
use Rattle.topology.proofs.walls.Walls.first_block.Goals as goal

pub returns-clause-first : goal.returns-clause-first
returns-clause-first c = rw (c.first_blocked.ensures, c.list.ensures) (first_block_is_first c.args.self.now c.args.path.now)

pub returns-clause-free : goal.returns-clause-free
returns-clause-free c = rw (c.first_blocked.ensures, c.list.ensures) (no_block_is_free c.args.self.now c.args.path.now)
