use Rattle.std.proofs.Common.{inl, inr, refl, subst}
use Rattle.std.specs.Arc.{arc_value}
use mathlib.Core.List.{IsPrefix}
use Rattle.log_serving.proofs.Kept.{closes}
use Rattle.log_serving.proofs.Begun.{begun}
use Rattle.log_serving.proofs.service.serve_logged.Goals as goal

pub returns-then-is_err-clause-evening : goal.returns-then-is_err-clause-evening
returns-then-is_err-clause-evening g c =
    let log = arc_value c.in-Ok.evening.log in
    let is = c.in-Ok.ensures.begun in
    inl (record {
      cause = inr refl;
      unwritten = refl;
      kept = λ told. closes g.K.Disk.left_since log.origin c.args.text c.args.recovered (g.K.Disk.moment c.args.disk) c.args.campaign.history c.close_shared-disk.result.0.front c.close_shared-disk.result.1
          is.text_is is.recovered_is (is.start_is told)
          (subst (λ es. IsPrefix es c.close_shared-disk.result.0.front) c.in-Ok.ensures.campaign.1 c.close_shared-disk.ensures.main) (c.close_shared-disk.ensures.since told);
    })

pub returns-clause-evening : goal.returns-clause-evening
returns-clause-evening g c =
    begun _ _ g.K.Disk.tells g.K.Disk.may_leave g.K.Disk.left_since _ c.args.count c.args.end _ _ _ g.K.Disk.moment c.args.recovered c.args.text c.args.disk (arc_value c.in-Ok.evening.log).origin c.args.campaign.origin
    (arc_value c.in-Ok.evening.hall).origin c.args.campaign.history c.in-Ok.evening.pass.front c.in-Ok.ensures.begun c.in-Ok.ensures.campaign.0 c.in-Ok.ensures.campaign.1 c.serve_evening.ensures.evening
