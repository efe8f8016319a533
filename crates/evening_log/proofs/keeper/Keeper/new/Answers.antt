use Rattle.std.proofs.Common.{arith}
use Rattle.evening_log.proofs.Keeping.{starts_at}
use Rattle.evening_log.proofs.keeper.Keeper.new.Goals as goal

pub invariant_of-result : goal.invariant_of-result
invariant_of-result g c = record {
  pass_is = c.requires.pass;
  within = omega (arith, c.requires.recovered);
  least = omega arith;
  disk_is = λ told. starts_at g.K.Disk.seen g.K.Disk.may_leave g.K.Disk.moment g.K.Disk.left_since g.met.K.Disk.only_now c.args.text c.args.pass.front c.args.recovered c.now-start.result c.args.disk c.args.journal
      c.requires.recovered (c.now-start.ensures told) (c.requires.holds told);
}
