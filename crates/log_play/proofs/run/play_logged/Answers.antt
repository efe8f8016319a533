use Rattle.std.proofs.Common.{◌∙◌, [], sym, subst, List, ℕ}
use Rattle.campaign_law.specs.declared.entry.Entry.{Entry}
use Rattle.campaign_law.specs.Law.{IsOpening, world_of}
use Rattle.campaign_law.proofs.Simulation.{sent_is_machine}
use Rattle.script_play.specs.declared.run.Played.TheVariants.{Memory}
use Rattle.script_play.specs.Script.{script_of}
use Rattle.script_play.specs.Played.{IsPrefix, entries_since}
use Rattle.script_play.proofs.AfterEntry.{nothing_since, prefix_none, stays}
use Rattle.script_play.proofs.Fronts.{wrote_nothing}
use Rattle.script_play.proofs.Written.{writes}
use Rattle.script_play.proofs.Reading.{told_same, told_weaker}
use Rattle.log_play.specs.Logged.{as_played}
use Rattle.log_play.specs.declared.logged.Logged.TheVariants as logged
use Rattle.log_play.specs.Kept.{Keeps}
use Rattle.log_play.proofs.KeptLemmas.{keeps_nothing}
use Rattle.log_play.proofs.run.play_logged.Goals as goal

pub returns-in-Ok-clause-sent : goal.returns-in-Ok-clause-sent
returns-in-Ok-clause-sent g c =
    λ p. sent_is_machine c.play_lines.new.campaign.origin c.play_lines.new.campaign.history p (subst IsOpening (sym c.play_lines.ensures.campaign.origin) c.seat_count-seats.ensures.opening)

pub returns-in-Err-clause-sent : goal.returns-in-Err-clause-sent
returns-in-Err-clause-sent g c = λ p. sent_is_machine c.args.campaign.now.origin c.args.campaign.now.history p c.seat_count-seats.ensures.opening

pub returns-in-Err-clause-entered : goal.returns-in-Err-clause-entered
returns-in-Err-clause-entered g c =
    told_same (λ text rest. IsPrefix (entries_since c.args.campaign.now c.args.campaign.now) (script_of (world_of c.args.campaign.now) text).entries) (g.S.Source.left c.args.script.now)
    (λ x. prefix_none _ _ (nothing_since c.args.campaign.now))

pub returns-in-Ok-clause-written : goal.returns-in-Ok-clause-written
returns-in-Ok-clause-written g c =
    writes (as_played c.play_lines.result) c.args.campaign.now c.play_lines.new.campaign _ _ c.seat_count-seats.ensures.opening c.play_lines.ensures.campaign c.play_lines.ensures.written

pub returns-in-Err-clause-written : goal.returns-in-Err-clause-written
returns-in-Err-clause-written g c =
    let now = c.args.campaign.now in
    writes Memory now now _ _ c.seat_count-seats.ensures.opening (stays now) (wrote_nothing Memory (world_of now) _ _ (nothing_since now))

pub returns-in-Ok-clause-any_moment : goal.returns-in-Ok-clause-any_moment
returns-in-Ok-clause-any_moment g c = λ told text before holds.
    let old = c.args.campaign.now in
    told_weaker (λ all rest. Keeps g.K.Disk.seen g.K.Disk.may_leave g.K.Disk.moment g.K.Disk.left_since c.play_lines.result text before (entries_since old c.play_lines.new.campaign) (script_of (world_of old) all).entries c.args.disk.now c.play_lines.new.disk c.play_lines.new.journal) _ _ _
    (c.play_lines.ensures.log told text before holds) (λ all rest kept. kept.any_moment)

pub returns-in-Ok-clause-kept : goal.returns-in-Ok-clause-kept
returns-in-Ok-clause-kept g c = λ told text before holds.
    let old = c.args.campaign.now in
    told_weaker (λ all rest. Keeps g.K.Disk.seen g.K.Disk.may_leave g.K.Disk.moment g.K.Disk.left_since c.play_lines.result text before (entries_since old c.play_lines.new.campaign) (script_of (world_of old) all).entries c.args.disk.now c.play_lines.new.disk c.play_lines.new.journal) _ _ _
    (c.play_lines.ensures.log told text before holds) (λ all rest kept. kept.kept)

pub returns-in-Err-clause-any_moment : goal.returns-in-Err-clause-any_moment
returns-in-Err-clause-any_moment g c = λ told text before holds.
    let now = c.args.campaign.now in
    told_same _ (g.S.Source.left c.args.script.now)
    (λ all. (keeps_nothing g.K.Disk.seen g.K.Disk.may_leave g.K.Disk.moment g.K.Disk.left_since logged.Memory (entries_since now now) (script_of (world_of now) all).entries c.args.disk.now c.args.journal.now (nothing_since now) (g.met.K.Disk.only_now c.args.disk.now) text before holds).any_moment)

pub returns-in-Err-clause-kept : goal.returns-in-Err-clause-kept
returns-in-Err-clause-kept g c = λ told text before holds.
    let now = c.args.campaign.now in
    told_same _ (g.S.Source.left c.args.script.now)
    (λ all. (keeps_nothing g.K.Disk.seen g.K.Disk.may_leave g.K.Disk.moment g.K.Disk.left_since logged.Memory (entries_since now now) (script_of (world_of now) all).entries c.args.disk.now c.args.journal.now (nothing_since now) (g.met.K.Disk.only_now c.args.disk.now) text before holds).kept)

pub returns-in-Err-clause-holds : goal.returns-in-Err-clause-holds
returns-in-Err-clause-holds g c = λ told text before holds.
    let now = c.args.campaign.now in
    (keeps_nothing g.K.Disk.seen g.K.Disk.may_leave g.K.Disk.moment g.K.Disk.left_since logged.Memory (entries_since now now) [] c.args.disk.now c.args.journal.now (nothing_since now) (g.met.K.Disk.only_now c.args.disk.now) text before holds).holds
