use Rattle.crash_log.proofs.RunLaws.{outlives, kept_is_read}
use Rattle.crash_log.proofs.outlives_crashes.Goals as goal

pub returns : goal.returns
returns g c = record { any_moment = outlives g.K.Disk.seen g.K.Disk.may_leave g.K.Disk.moment g.K.Disk.left_since g.met.K.Disk.counts_now g.met.K.Disk.only_now; read = kept_is_read }
