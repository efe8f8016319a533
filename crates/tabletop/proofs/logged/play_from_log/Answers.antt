use Rattle.std.proofs.Common.{sym, subst}
use Rattle.campaign_law.specs.Law.{IsOpening}
use Rattle.tabletop.proofs.LoggedRuns.{played_to, not_entered}
use Rattle.tabletop.proofs.logged.play_from_log.Goals as goal

pub play_on-requires-clause-opening : goal.play_on-requires-clause-opening
play_on-requires-clause-opening g c = subst IsOpening (sym c.enter_again.ensures.origin) c.requires.opening

pub play_on-requires-clause-journal : goal.play_on-requires-clause-journal
play_on-requires-clause-journal g c = λ told. record { text = _; entries = _; holds = (c.in-Ok.ensures.begins told).holds }

pub returns-in-Ok-enter_again-clause-plays : goal.returns-in-Ok-enter_again-clause-plays
returns-in-Ok-enter_again-clause-plays g c =
    played_to c.args.campaign.now c.enter_again.new.campaign c.play_on.new.campaign c.in-Ok.entries.items c.requires.none c.enter_again.ensures.origin c.in-Ok-enter_again.ensures.entered c.requires.opening c.play_on.ensures.campaign
    g.K.Disk.seen g.K.Disk.may_leave g.K.Disk.moment g.K.Disk.left_since g.K.Disk.tells c.play_on.result c.args.text.now _ _ _ _ c.args.disk.now c.open_log.new.disk c.play_on.new.disk _ _
    c.play_on.ensures.entered c.play_on.ensures.read c.play_on.ensures.written c.in-Ok.ensures.begins (λ told front h. c.play_on.ensures.log told c.args.text.now front h) c.play_on.ensures.full

pub returns-in-Err-enter_again-clause-plays : goal.returns-in-Err-enter_again-clause-plays
returns-in-Err-enter_again-clause-plays g c =
    not_entered c.args.campaign.now c.enter_again.new.campaign c.in-Ok.entries.items c.requires.opening
    g.K.Disk.seen g.K.Disk.may_leave g.K.Disk.moment g.K.Disk.left_since g.K.Disk.tells c.args.text.now _ _ c.args.disk.now c.open_log.new.disk _
    c.in-Ok.ensures.begins (g.met.K.Disk.only_now c.open_log.new.disk)
