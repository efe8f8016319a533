use Rattle.tabletop.proofs.Starting.{read_once, read_again}
use Rattle.tabletop.proofs.log_start.open_length.Goals as goal

pub returns-clause-read : goal.returns-clause-read
returns-clause-read g c = λ told.
    read_again g.K.Disk.seen g.K.Disk.may_leave g.K.Disk.moment g.K.Disk.left_since c.args.disk.now c.open.new.self c.length.new.self
    (read_once g.K.Disk.seen g.K.Disk.may_leave g.K.Disk.moment g.K.Disk.left_since c.args.disk.now c.open.new.self (c.open.ensures.stays told) (c.open.ensures.time told) (g.met.K.Disk.only_now c.args.disk.now))
    (c.length.ensures.stays told) (c.length.ensures.time told)
