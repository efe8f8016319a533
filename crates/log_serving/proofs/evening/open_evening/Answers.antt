use Rattle.log_serving.proofs.Kept.{stays}
use Rattle.log_serving.proofs.evening.open_evening.Goals as goal

pub returns-in_default-clause-back : goal.returns-in_default-clause-back
returns-in_default-clause-back g c = λ told.
    stays g.K.Disk.seen g.K.Disk.may_leave g.K.Disk.moment g.K.Disk.left_since g.met.K.Disk.only_now c.args.text c.args.campaign.history c.args.recovered c.args.disk c.args.journal c.requires.recovered (c.requires.holds told)
