use Rattle.std.proofs.Common.{◌≡◌, ◌≤◌, ◌++◌}
use Rattle.std.specs.Vec.Iter.{into_iter_items}
use Rattle.log_play.specs.declared.logged.Logged.TheVariants.{Done}
use Rattle.log_play.specs.Kept.{KeepsLog}
use Rattle.log_play.proofs.entering.log_all.Given as goal

abbrev pub invariant-loop-entry : goal.invariant-loop-entry
invariant-loop-entry g l = record {
  origin : l.campaign.origin ≡ l.fn.campaign.origin;
  history : l.campaign.history ≡ l.fn.campaign.history ++ l.yielded;
  whole : l.yielded ++ into_iter_items l.entry-iterator ≡ l.fn.entries.items;
  log : g.K.Disk.tells → KeepsLog g.K.Disk.seen g.K.Disk.may_leave g.K.Disk.moment g.K.Disk.left_since Done l.yielded l.yielded l.fn.disk l.disk l.fn.journal l.journal;
  disk_count : g.K.Disk.faults_of l.fn.disk ≤ g.K.Disk.faults_of l.disk;
}
