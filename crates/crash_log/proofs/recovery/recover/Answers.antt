use Rattle.std.proofs.Common.{◌∙◌, subst}
use Rattle.crash_log.specs.Log.{IsLog}
use Rattle.crash_log.proofs.LogLaws.{log_not_bad}
use Rattle.crash_log.proofs.recovery.recover.Goals as goal

pub returns-clause-bad_is_told : goal.returns-clause-bad_is_told
returns-clause-bad_is_told g c = λ told place bad.
    let same = (c.read_head.ensures.read told).stays.seen_same ∙ c.sync.ensures.same told in
    let log = subst (IsLog c.bytes.result.now c.in_ok-list.list.items) same (c.in_ok-list.ensures.found told).0 in
    absurd (log_not_bad c.bytes.result.now c.in_ok-list.list.items (g.K.Disk.seen c.args.disk.now) place log bad)
