use Rattle.std.proofs.Common.{◌∙◌, sym, subst}
use Rattle.campaign_law.specs.Law.{world_of}
use Rattle.script_play.specs.declared.run.Played.{Played}
use Rattle.script_play.specs.Script.{script_from, with_takens}
use Rattle.script_play.specs.Played.{HasEntered, entries_since}
use Rattle.script_play.proofs.Fronts.{wrote_nothing}
use Rattle.script_play.proofs.AfterEntry.{nothing_since, prefix_none}
use Rattle.script_play.proofs.LineRuns.{line_played, bad_line_played, too_many_played, leaves_nothing}
use Rattle.std.proofs.Common.{◌≡◌, ◌∷◌, [], ℕ, List}
use Rattle.std.specs.Prelude.{Some}
use Rattle.script_play.specs.Script.{entry_of_line, NothingWaits}
use Rattle.script_play.specs.Played.{LeavesNothing}
use Rattle.log_play.specs.Logged.{logged}
use Rattle.log_play.specs.declared.logged.Logged.TheVariants.{BadLine, TooLarge, Memory}
use Rattle.log_play.proofs.Stops.{result_as, same_as, ok_as, err_as, cut_as, all_cut_stops}
use Rattle.log_play.proofs.KeptLemmas.{keeps_log_wider, keeps_nothing, room_wider}
use Rattle.log_play.proofs.LineEntries.{line_front}
use Rattle.log_play.proofs.run.play_line.Goals as goal

pub returns-then-number-gt-LINE_LIMIT-clause-entered : goal.returns-then-number-gt-LINE_LIMIT-clause-entered
returns-then-number-gt-LINE_LIMIT-clause-entered g c = too_many_played (world_of c.args.campaign.now) c.args.number c.args.line _ c.if-number-gt-LINE_LIMIT.true (nothing_since c.args.campaign.now)

pub returns-in-Ok-Some-clause-entered : goal.returns-in-Ok-Some-clause-entered
returns-in-Ok-Some-clause-entered g c =
    let r = c.enter_with_takens.result in
    let w = world_of c.args.campaign.now in
    let since = entries_since c.args.campaign.now c.enter_with_takens.new.campaign in
    subst (λ (p : Played). HasEntered p (script_from w c.args.number (c.args.line ∷ [])) since) (same_as r)
    (line_played (result_as r) w c.args.number c.args.line c.in-Ok-Some.entry since c.if-number-gt-LINE_LIMIT.false c.requires.short
    (sym c.in-Ok-Some.ensures ∙ c.in-Ok-Some.field-0-is) (ok_as r _ c.enter_with_takens.ensures.entered) (err_as r _ c.enter_with_takens.ensures.stopped) (cut_as r c.enter_with_takens.ensures.stop))

pub returns-in-Ok-Some-clause-waits : goal.returns-in-Ok-Some-clause-waits
returns-in-Ok-Some-clause-waits g c =
    let r = c.enter_with_takens.result in
    subst (λ (p : Played). LeavesNothing p (world_of c.enter_with_takens.new.campaign)) (same_as r)
    (leaves_nothing (result_as r) (world_of c.enter_with_takens.new.campaign) (ok_as r _ c.enter_with_takens.ensures.waits) (cut_as r c.enter_with_takens.ensures.stop))

pub returns-in-Ok-Some-clause-stop : goal.returns-in-Ok-Some-clause-stop
returns-in-Ok-Some-clause-stop g c = all_cut_stops c.enter_with_takens.result c.enter_with_takens.ensures.stop

pub returns-in-Ok-Some-clause-log : goal.returns-in-Ok-Some-clause-log
returns-in-Ok-Some-clause-log g c = λ told.
    let w = world_of c.args.campaign.now in
    let is : entry_of_line w c.args.line ≡ Some c.in-Ok-Some.entry = sym c.in-Ok-Some.ensures ∙ c.in-Ok-Some.field-0-is in
    keeps_log_wider g.K.Disk.seen g.K.Disk.may_leave g.K.Disk.moment g.K.Disk.left_since (logged c.enter_with_takens.result)
    (entries_since c.args.campaign.now c.enter_with_takens.new.campaign) (with_takens w c.in-Ok-Some.entry) (script_from w c.args.number (c.args.line ∷ [])).entries
    c.args.disk.now c.enter_with_takens.new.disk c.args.journal.now c.enter_with_takens.new.journal
    (line_front w c.args.number c.args.line c.in-Ok-Some.entry c.if-number-gt-LINE_LIMIT.false c.requires.short is) (c.enter_with_takens.ensures.log told)

pub returns-in-Ok-Some-clause-full : goal.returns-in-Ok-Some-clause-full
returns-in-Ok-Some-clause-full g c = λ full.
    let w = world_of c.args.campaign.now in
    let is : entry_of_line w c.args.line ≡ Some c.in-Ok-Some.entry = sym c.in-Ok-Some.ensures ∙ c.in-Ok-Some.field-0-is in
    room_wider c.enter_with_takens.new.journal (entries_since c.args.campaign.now c.enter_with_takens.new.campaign) (with_takens w c.in-Ok-Some.entry) (script_from w c.args.number (c.args.line ∷ [])).entries
    (line_front w c.args.number c.args.line c.in-Ok-Some.entry c.if-number-gt-LINE_LIMIT.false c.requires.short is) (c.enter_with_takens.ensures.full full)

pub returns-in-Ok-None-clause-entered : goal.returns-in-Ok-None-clause-entered
returns-in-Ok-None-clause-entered g c =
    bad_line_played (world_of c.args.campaign.now) c.args.number c.args.line _ c.if-number-gt-LINE_LIMIT.false c.requires.short
    (sym c.in-Ok-None.field-0-is ∙ c.in-Ok-None.ensures) (nothing_since c.args.campaign.now)

pub returns-in-Err-clause-entered : goal.returns-in-Err-clause-entered
returns-in-Err-clause-entered g c = prefix_none _ _ (nothing_since c.args.campaign.now)

pub returns-then-number-gt-LINE_LIMIT-clause-written : goal.returns-then-number-gt-LINE_LIMIT-clause-written
returns-then-number-gt-LINE_LIMIT-clause-written g c = wrote_nothing _ _ _ _ (nothing_since c.args.campaign.now)

pub returns-then-number-gt-LINE_LIMIT-clause-log : goal.returns-then-number-gt-LINE_LIMIT-clause-log
returns-then-number-gt-LINE_LIMIT-clause-log g c = λ told.
    keeps_nothing g.K.Disk.seen g.K.Disk.may_leave g.K.Disk.moment g.K.Disk.left_since TooLarge (entries_since c.args.campaign.now c.args.campaign.now) _ c.args.disk.now c.args.journal.now (nothing_since c.args.campaign.now) (g.met.K.Disk.only_now c.args.disk.now)

pub returns-in-Ok-None-clause-written : goal.returns-in-Ok-None-clause-written
returns-in-Ok-None-clause-written g c = wrote_nothing _ _ _ _ (nothing_since c.args.campaign.now)

pub returns-in-Ok-None-clause-log : goal.returns-in-Ok-None-clause-log
returns-in-Ok-None-clause-log g c = λ told.
    keeps_nothing g.K.Disk.seen g.K.Disk.may_leave g.K.Disk.moment g.K.Disk.left_since (BadLine c.args.number) (entries_since c.args.campaign.now c.args.campaign.now) _ c.args.disk.now c.args.journal.now (nothing_since c.args.campaign.now) (g.met.K.Disk.only_now c.args.disk.now)

pub returns-in-Err-clause-written : goal.returns-in-Err-clause-written
returns-in-Err-clause-written g c = wrote_nothing _ _ _ _ (nothing_since c.args.campaign.now)

pub returns-in-Err-clause-log : goal.returns-in-Err-clause-log
returns-in-Err-clause-log g c = λ told.
    keeps_nothing g.K.Disk.seen g.K.Disk.may_leave g.K.Disk.moment g.K.Disk.left_since Memory (entries_since c.args.campaign.now c.args.campaign.now) _ c.args.disk.now c.args.journal.now (nothing_since c.args.campaign.now) (g.met.K.Disk.only_now c.args.disk.now)
