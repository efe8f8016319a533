use Rattle.std.proofs.Common.{◌≡◌, ◌≤◌, ◌<◌, ◌-◌, true}
use Rattle.std.specs.Io.KnownBytes.{IsAtEnd}
use Rattle.line_io.specs.Reader.{bytes_to_come}
use Rattle.line_io.specs.Told.{WhereTold}
use Rattle.campaign_law.specs.Law.{world_of}
use Rattle.script_play.specs.Script.{NothingWaits}
use Rattle.script_play.specs.declared.run.Played.TheVariants.{Done}
use Rattle.script_play.specs.Played.{GoesOn, HasWritten, entries_since}
use Rattle.script_play.proofs.WholeRuns.{CameTo}
use Rattle.log_play.specs.declared.logged.Logged.TheVariants as logged
use Rattle.log_play.specs.Kept.{KeepsLog}
use Rattle.log_play.proofs.run.play_lines.Given as goal

abbrev pub invariant-lines : goal.invariant-lines
invariant-lines g l = record {
  campaign : GoesOn l.fn.campaign l.campaign;
  quiet : NothingWaits (world_of l.campaign);
  written : HasWritten Done (world_of l.fn.campaign) (entries_since l.fn.campaign l.campaign) (g.O.Sink.written l.fn.out) (g.O.Sink.written l.out);
  came : WhereTold (g.S.Source.left l.fn.script) (bytes_to_come l.reader (g.S.Source.left l.script)) (CameTo l.fn.campaign l.campaign l.number l.reader.ended);
  at_end : l.reader.ended ≡ true → IsAtEnd (g.S.Source.left l.script);
  cap : l.reader.cap ≡ 4112;
  number : l.number ≤ 1000001;
  log : g.K.Disk.tells → KeepsLog g.K.Disk.seen g.K.Disk.may_leave g.K.Disk.moment g.K.Disk.left_since logged.Done (entries_since l.fn.campaign l.campaign) (entries_since l.fn.campaign l.campaign) l.fn.disk l.disk l.fn.journal l.journal;
  script_count : g.S.Source.faults_of l.fn.script ≤ g.S.Source.faults_of l.script;
  out_count : g.O.Sink.faults_of l.fn.out ≤ g.O.Sink.faults_of l.out;
  disk_count : g.K.Disk.faults_of l.fn.disk ≤ g.K.Disk.faults_of l.disk;
}

abbrev pub decreases-lines : goal.decreases-lines
decreases-lines g l = 1000002 - l.number
