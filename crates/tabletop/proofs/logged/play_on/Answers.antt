use Rattle.std.proofs.Common.{subst, sym}
use Rattle.std.specs.List.{AllByRecursion}
use Rattle.campaign_law.specs.Law.{world_of}
use Rattle.script_play.specs.Played.{HasEntered, HasRead, IsPrefix, entries_since}
use Rattle.script_play.specs.declared.run.Played.TheVariants as played
use Rattle.script_play.proofs.Fronts.{wrote_nothing}
use Rattle.script_play.proofs.AfterEntry.{nothing_since, prefix_none, stays}
use Rattle.script_play.proofs.LineRuns.{goes_both}
use Rattle.script_play.proofs.Reading.{told_same}
use Rattle.log_play.specs.declared.logged.Logged.TheVariants.{Memory}
use Rattle.log_play.specs.Logged.{as_played}
use Rattle.log_play.specs.Kept.{Keeps, HasNoRoom}
use Rattle.log_play.proofs.KeptLemmas.{keeps_nothing, still_disks}
use Rattle.tabletop.specs.Logged.{behind_leaves, resumed, start_of}
use Rattle.tabletop.proofs.Leaves.{IsShort, leaves_short}
use Rattle.tabletop.proofs.Resuming.{opening_settled, stop_entered, stop_read, stop_written, stop_full, stop_log, on_entered, on_read, on_written, on_full, on_quiet, on_log}
use Rattle.tabletop.proofs.logged.play_on.Goals as goal

pub log_all-requires-clause-short : goal.log_all-requires-clause-short
log_all-requires-clause-short g c = subst (AllByRecursion IsShort) (sym c.in-Ok.ensures) (leaves_short (world_of c.args.campaign.now))

pub play_logged-requires-clause-quiet : goal.play_logged-requires-clause-quiet
play_logged-requires-clause-quiet g c =
    on_quiet c.args.campaign.now c.log_all.new.campaign c.log_all.new.campaign c.in-Ok.due.items c.log_all.ensures.campaign (stays c.log_all.new.campaign) c.in-Ok.ensures c.in-Ok-log_all.ensures.entered c.requires.opening

pub play_logged-requires-clause-journal : goal.play_logged-requires-clause-journal
play_logged-requires-clause-journal g c = λ told.
    still_disks g.K.Disk.seen g.K.Disk.may_leave g.K.Disk.moment g.K.Disk.left_since _ _ c.args.disk.now c.log_all.new.disk c.args.journal.now c.log_all.new.journal (c.requires.journal told) (c.in-Ok-log_all.ensures.log told)

pub returns-in-Ok-log_all-clause-campaign : goal.returns-in-Ok-log_all-clause-campaign
returns-in-Ok-log_all-clause-campaign g c = goes_both c.args.campaign.now c.log_all.new.campaign c.play_logged.new.campaign c.log_all.ensures.campaign c.play_logged.ensures.campaign

pub returns-in-Ok-log_all-clause-entered : goal.returns-in-Ok-log_all-clause-entered
returns-in-Ok-log_all-clause-entered g c =
    on_entered c.args.campaign.now c.log_all.new.campaign c.play_logged.new.campaign c.in-Ok.due.items c.log_all.ensures.campaign c.play_logged.ensures.campaign c.in-Ok.ensures c.in-Ok-log_all.ensures.entered
    (as_played c.play_logged.result) _ _ c.play_logged.ensures.entered

pub returns-in-Ok-log_all-clause-read : goal.returns-in-Ok-log_all-clause-read
returns-in-Ok-log_all-clause-read g c =
    on_read c.args.campaign.now c.log_all.new.campaign c.play_logged.new.campaign c.in-Ok.due.items c.log_all.ensures.campaign c.play_logged.ensures.campaign c.in-Ok.ensures c.in-Ok-log_all.ensures.entered
    (as_played c.play_logged.result) _ _ c.play_logged.ensures.read

pub returns-in-Ok-log_all-clause-written : goal.returns-in-Ok-log_all-clause-written
returns-in-Ok-log_all-clause-written g c =
    on_written c.args.campaign.now c.log_all.new.campaign c.play_logged.new.campaign c.in-Ok.due.items c.log_all.ensures.campaign c.play_logged.ensures.campaign c.in-Ok.ensures c.in-Ok-log_all.ensures.entered
    (as_played c.play_logged.result) _ _ (opening_settled c.args.campaign.now c.requires.opening) c.play_logged.ensures.written.bytes

pub returns-in-Ok-log_all-clause-log : goal.returns-in-Ok-log_all-clause-log
returns-in-Ok-log_all-clause-log g c = λ told text before holds.
    on_log c.args.campaign.now c.log_all.new.campaign c.play_logged.new.campaign c.in-Ok.due.items c.log_all.ensures.campaign c.play_logged.ensures.campaign c.in-Ok.ensures c.in-Ok-log_all.ensures.entered
    g.K.Disk.seen g.K.Disk.may_leave g.K.Disk.moment g.K.Disk.left_since c.play_logged.result _ _ c.args.disk.now c.log_all.new.disk c.play_logged.new.disk c.args.journal.now c.log_all.new.journal c.play_logged.new.journal text before
    (c.in-Ok-log_all.ensures.log told) holds (λ front h. c.play_logged.ensures.any_moment told text front h) (λ front h. c.play_logged.ensures.kept told text front h) (λ front h. c.play_logged.ensures.holds told text front h)

pub returns-in-Ok-log_all-clause-full : goal.returns-in-Ok-log_all-clause-full
returns-in-Ok-log_all-clause-full g c = λ is.
    on_full c.args.campaign.now c.log_all.new.campaign c.play_logged.new.campaign c.in-Ok.due.items c.log_all.ensures.campaign c.play_logged.ensures.campaign c.in-Ok.ensures c.in-Ok-log_all.ensures.entered
    c.play_logged.new.journal _ _ (c.play_logged.ensures.full is)

-- ---- a stop within the Leaves

pub returns-in-Err-clause-entered : goal.returns-in-Err-clause-entered
returns-in-Err-clause-entered g c =
    let w = world_of c.args.campaign.now in
    let put = entries_since c.args.campaign.now c.log_all.new.campaign in
    told_same (λ all rest. HasEntered (as_played c.in-Err.stop) (resumed w all) put) (g.S.Source.left c.args.script.now)
    (λ all. stop_entered w put (subst (IsPrefix put) c.in-Ok.ensures c.in-Err.ensures.stopped) c.in-Err.stop c.in-Err.ensures.stop all)

pub returns-in-Err-clause-read : goal.returns-in-Err-clause-read
returns-in-Err-clause-read g c =
    let w = world_of c.args.campaign.now in
    let put = entries_since c.args.campaign.now c.log_all.new.campaign in
    told_same (λ all rest. HasRead (as_played c.in-Err.stop) (start_of w) (behind_leaves w put) all rest) (g.S.Source.left c.args.script.now)
    (λ all. stop_read w put (subst (IsPrefix put) c.in-Ok.ensures c.in-Err.ensures.stopped) c.in-Err.stop c.in-Err.ensures.stop all)

pub returns-in-Err-clause-written : goal.returns-in-Err-clause-written
returns-in-Err-clause-written g c =
    let w = world_of c.args.campaign.now in
    let put = entries_since c.args.campaign.now c.log_all.new.campaign in
    stop_written w put (subst (IsPrefix put) c.in-Ok.ensures c.in-Err.ensures.stopped) (as_played c.in-Err.stop) _ (opening_settled c.args.campaign.now c.requires.opening)

pub returns-in-Err-clause-log : goal.returns-in-Err-clause-log
returns-in-Err-clause-log g c = λ told text before holds.
    let w = world_of c.args.campaign.now in
    let put = entries_since c.args.campaign.now c.log_all.new.campaign in
    told_same (λ all rest. Keeps g.K.Disk.seen g.K.Disk.may_leave g.K.Disk.moment g.K.Disk.left_since c.in-Err.stop text before put (resumed w all).entries c.args.disk.now c.log_all.new.disk c.log_all.new.journal) (g.S.Source.left c.args.script.now)
    (λ all. stop_log g.K.Disk.seen g.K.Disk.may_leave g.K.Disk.moment g.K.Disk.left_since c.in-Err.stop w put c.in-Ok.due.items c.args.disk.now c.log_all.new.disk c.args.journal.now c.log_all.new.journal text before all c.in-Ok.ensures (c.in-Err.ensures.log told) holds)

pub returns-in-Err-clause-full : goal.returns-in-Err-clause-full
returns-in-Err-clause-full g c = λ is.
    let w = world_of c.args.campaign.now in
    let put = entries_since c.args.campaign.now c.log_all.new.campaign in
    told_same (λ all rest. HasNoRoom c.log_all.new.journal put (resumed w all).entries) (g.S.Source.left c.args.script.now)
    (λ all. stop_full w put c.in-Ok.due.items c.log_all.new.journal all c.in-Ok.ensures (c.in-Err.ensures.full is))

-- ---- without memory for the Leaves

pub returns-in_default-clause-entered : goal.returns-in_default-clause-entered
returns-in_default-clause-entered g c =
    let now = c.args.campaign.now in
    told_same (λ all rest. IsPrefix (entries_since now now) (resumed (world_of now) all).entries) (g.S.Source.left c.args.script.now) (λ all. prefix_none _ _ (nothing_since now))

pub returns-in_default-clause-written : goal.returns-in_default-clause-written
returns-in_default-clause-written g c = let now = c.args.campaign.now in wrote_nothing played.Memory (world_of now) (entries_since now now) _ (nothing_since now)

pub returns-in_default-clause-log : goal.returns-in_default-clause-log
returns-in_default-clause-log g c = λ told text before holds.
    let now = c.args.campaign.now in
    told_same (λ all rest. Keeps g.K.Disk.seen g.K.Disk.may_leave g.K.Disk.moment g.K.Disk.left_since Memory text before (entries_since now now) (resumed (world_of now) all).entries c.args.disk.now c.args.disk.now c.args.journal.now) (g.S.Source.left c.args.script.now)
    (λ all. keeps_nothing g.K.Disk.seen g.K.Disk.may_leave g.K.Disk.moment g.K.Disk.left_since Memory (entries_since now now) (resumed (world_of now) all).entries c.args.disk.now c.args.journal.now (nothing_since now) (g.met.K.Disk.only_now c.args.disk.now) text before holds)
