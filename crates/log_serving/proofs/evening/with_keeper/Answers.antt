use Rattle.std.proofs.Common.{◌≡◌, ap, sym, subst, ◌∙◌}
use mathlib.Core.List.{IsPrefix}
use Rattle.log_serving.specs.Evening.{HasStayed}
use Rattle.log_serving.proofs.Kept.{stays, closes}
use Rattle.log_serving.proofs.evening.with_keeper.Goals as goal

pub returns-in_default-clause-back : goal.returns-in_default-clause-back
returns-in_default-clause-back g c = λ told.
    stays g.K.Disk.seen g.K.Disk.may_leave g.K.Disk.moment g.K.Disk.left_since g.met.K.Disk.only_now c.args.text c.args.pass.front c.args.recovered c.args.disk c.args.journal c.requires.recovered (c.requires.holds told)

pub returns-in_default-split-clause-back : goal.returns-in_default-split-clause-back
returns-in_default-split-clause-back g c = λ told.
    stays g.K.Disk.seen g.K.Disk.may_leave g.K.Disk.moment g.K.Disk.left_since g.met.K.Disk.only_now c.args.text c.args.pass.front c.args.recovered c.args.disk c.args.journal c.requires.recovered (c.requires.holds told)

pub returns-in-Err-clause-back : goal.returns-in-Err-clause-back
returns-in-Err-clause-back g c = λ told.
    let disk_is : c.into_disk.result ≡ c.args.disk = c.into_disk.ensures.disk ∙ (ap (λ k. k.disk) c.in-Err.ensures.err ∙ ap (λ k. k.disk) c.new-keeper.ensures.made) in
    subst (HasStayed g.K.Disk.left_since c.args.text c.args.recovered c.args.pass.front (g.K.Disk.moment c.args.disk)) (sym disk_is)
    (stays g.K.Disk.seen g.K.Disk.may_leave g.K.Disk.moment g.K.Disk.left_since g.met.K.Disk.only_now c.args.text c.args.pass.front c.args.recovered c.args.disk c.args.journal c.requires.recovered (c.requires.holds told))

pub returns-in-Err-split-clause-back : goal.returns-in-Err-split-clause-back
returns-in-Err-split-clause-back g c = λ told.
    let origin_is = c.in-Ok-open.ensures.origin in
    let made = c.new-keeper.ensures.made in
    closes g.K.Disk.left_since c.in-Ok-open.opened.0.origin c.args.text c.args.recovered (g.K.Disk.moment c.args.disk) c.args.pass.front c.close.result.0.front c.close.result.1
    (ap (λ o. o.text) origin_is ∙ ap (λ k. k.origin.text) made) (ap (λ o. o.recovered) origin_is ∙ ap (λ k. k.origin.recovered) made)
    (ap (λ o. o.start) origin_is ∙ c.new-keeper.ensures.start told)
    (subst (λ p. IsPrefix p.front c.close.result.0.front) c.in-Ok-split.ensures.left c.close.ensures.main) (c.close.ensures.since told)

pub returns-in-Err-new-clause-back : goal.returns-in-Err-new-clause-back
returns-in-Err-new-clause-back g c = λ told.
    let origin_is = ap (λ h. h.origin) c.in-Err-new.ensures.value_returned ∙ c.in-Ok-open.ensures.origin in
    let made = c.new-keeper.ensures.made in
    closes g.K.Disk.left_since c.in-Err-new.failed.value.origin c.args.text c.args.recovered (g.K.Disk.moment c.args.disk) c.args.pass.front c.close-in-Err-new.result.0.front c.close-in-Err-new.result.1
    (ap (λ o. o.text) origin_is ∙ ap (λ k. k.origin.text) made) (ap (λ o. o.recovered) origin_is ∙ ap (λ k. k.origin.recovered) made)
    (ap (λ o. o.start) origin_is ∙ c.new-keeper.ensures.start told)
    (subst (λ p. IsPrefix p.front c.close-in-Err-new.result.0.front) c.in-Ok-split.ensures.left c.close-in-Err-new.ensures.main) (c.close-in-Err-new.ensures.since told)
