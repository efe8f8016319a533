use Rattle.std.proofs.Common.{inl, inr, refl}
use Rattle.tabletop.proofs.LoggedEnds.{runs_on}
use Rattle.tabletop.proofs.logged.play_with_log.Goals as goal

pub returns-in-Ok-clause-ends : goal.returns-in-Ok-clause-ends
returns-in-Ok-clause-ends g c =
    inr (runs_on g.K.Disk.seen g.K.Disk.may_leave g.K.Disk.moment g.K.Disk.left_since g.K.Disk.tells c.args.end c.in-Ok.logged c.after_logged.result c.args.text.now _ _ _ _ _ _ c.args.disk.now c.play_from_log.new.disk c.args.campaign.now c.play_from_log.new.campaign
    c.requires.world c.in-Ok.ensures.plays refl c.after_logged.ensures.follows)

pub returns-in-Err-clause-ends : goal.returns-in-Err-clause-ends
returns-in-Err-clause-ends g c = inl (inr c.in-Err.ensures.no_log, c.in-Err.ensures.unwritten)
