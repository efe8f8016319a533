use Rattle.std.proofs.Common.{◌++◌, length, take, refl, inl, sym, ◌∙◌, ap, subst}
use Rattle.campaign_law.specs.World.{replay}
use Rattle.crash_log.specs.Log.{HoldsLog}
use Rattle.command_words.specs.LoggedServe.{asked_service}
use Rattle.log_serving.specs.declared.answers.LogServed.TheVariants.{Memory}
use Rattle.log_serving.proofs.Kept.{stays}
use Rattle.tabletop.specs.Logged.{leaves}
use Rattle.tabletop.proofs.Evenings.{first_part, first_within, has_evening}
use Rattle.tabletop.proofs.log_serve.serve_from_log.Goals as goal

pub serve_logged-served-requires-clause-holds : goal.serve_logged-served-requires-clause-holds
serve_logged-served-requires-clause-holds g c κs within = λ told.
    let kept = c.args.entries.items in
    let left = leaves (replay c.args.campaign.origin kept) in
    subst (HoldsLog g.K.Disk.seen g.K.Disk.may_leave c.args.disk c.args.journal c.args.text)
    (sym (ap (λ n. take n c.enter_all.new.campaign.history) (c.len-recovered.ensures ∙ c.args.entries.ok.0) ∙ (ap (take (length kept)) c.in-Ok.ensures.entered ∙ first_part kept left))) (c.requires.holds told)

pub returns-in-Ok-clause-evening : goal.returns-in-Ok-clause-evening
returns-in-Ok-clause-evening g c =
    has_evening _ _ g.K.Disk.tells g.K.Disk.may_leave g.K.Disk.left_since c.serve_logged-served.result.0 c.served_as.result (asked_service c.args.asked.now) c.args.text _ c.args.campaign.origin c.enter_all.new.campaign.origin c.args.entries.items c.enter_all.new.campaign.history
    _ _ _ _ c.served_as.ensures (c.len-recovered.ensures ∙ c.args.entries.ok.0) c.enter_all.ensures.origin c.in-Ok.ensures.entered c.serve_logged-served.ensures.evening

-- no memory for the log's entries: the disk is as it was
pub returns-in-Err-clause-evening : goal.returns-in-Err-clause-evening
returns-in-Err-clause-evening g c =
    let kept = c.args.entries.items in
    let left = leaves (replay c.args.campaign.origin kept) in
    record {
      answer = Memory;
      told = refl;
      serves = inl (record {
        cause = inl refl;
        unwritten = refl;
        kept = λ told. stays g.K.Disk.seen g.K.Disk.may_leave g.K.Disk.moment g.K.Disk.left_since g.met.K.Disk.only_now c.args.text (kept ++ left) (length kept) c.args.disk c.args.journal
            (first_within kept left) (subst (HoldsLog g.K.Disk.seen g.K.Disk.may_leave c.args.disk c.args.journal c.args.text) (sym (first_part kept left)) (c.requires.holds told));
      });
    }
