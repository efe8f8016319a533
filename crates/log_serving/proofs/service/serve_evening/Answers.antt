use Rattle.std.proofs.Common.{ℕ, length, inl, inr, ap, subst, refl, max}
use Rattle.std.proofs.Math.Nat.{le-max_right}
use Rattle.std.specs.Arc.{arc_value}
use Rattle.campaign_law.specs.World.{World}
use Rattle.turn_lock.specs.Pass.{HallState}
use Rattle.turn_lock.proofs.Prefixes.{prefix_trans}
use Rattle.evening_log.specs.Logged.{HeardAtMost}
use Rattle.serving.proofs.Undisturbed.{told_safely}
use Rattle.log_serving.specs.Evening.{EndsEvening}
use Rattle.log_serving.proofs.Kept.{all_told, closes, heard_less, kept_all}
use Rattle.log_serving.proofs.service.serve_evening.Goals as goal

pub returns-in_default-clause-evening : goal.returns-in_default-clause-evening
returns-in_default-clause-evening g c =
    let log = arc_value c.args.evening.log in
    inl (record {
      cause = inl refl;
      unwritten = refl;
      kept = λ told. closes g.K.Disk.left_since log.origin log.origin.text log.origin.recovered log.origin.start c.args.evening.pass.front c.close_shared-disk.result.0.front c.close_shared-disk.result.1 refl refl refl
          c.close_shared-disk.ensures.main (c.close_shared-disk.ensures.since told);
    })

pub returns-clause-evening : goal.returns-clause-evening
returns-clause-evening g c =
    let log = arc_value c.args.evening.log in
    let front = c.serve_hall-pass.result.0.front in
    let history = c.close_shared-disk-2.result.0.front in
    let serves = c.serve_hall-pass.ensures.serves in
    let heard = c.finish-door.result.1 in
    let most : ℕ = max c.finish-ended.new.log_pass.heard heard in
    let given = all_told (HeardAtMost heard) c.new-logged_door.result.ended c.serve_hall-pass.new.door.ended _ (ap (λ d. d.ended) c.new-logged_door.ensures) serves.ended c.finish-door.ensures.heard in
    inr (record {
      hall = arc_value c.args.evening.hall;
      origin_is = refl;
      p = c.args.evening.pass;
      q = c.serve_hall-pass.result.0;
      front_is = refl;
      low = _;
      high = _;
      early = _;
      late = _;
      out_is = refl;
      told = c.serve_hall-pass.result.1;
      serves = serves;
      ends = subst (λ (h : HallState World). EndsEvening c.args.end c.serve_hall-pass.result.1 c.finish-ended.result h.origin c.serve_hall-pass.result.0 (g.O.Sink.written c.serve_hall-pass.new.out) (g.O.Sink.written c.finish-ended.new.out)) c.deref-2.ensures c.finish-ended.ensures.ends;
      history = history;
      longer = prefix_trans front c.finish-ended.new.pass.front history c.finish-ended.ensures.front c.close_shared-disk-2.ensures.main;
      kept = λ told. c.close_shared-disk-2.ensures.since told;
      safe = λ told nobody. kept_all (arc_value c.args.evening.hall).origin front history (length c.args.evening.pass.front) most _ g.K.Disk.may_leave log.origin.text c.close_shared-disk-2.result.1 (c.close_shared-disk-2.ensures.now told) serves.fates
          (heard_less heard most _ (le-max_right c.finish-ended.new.log_pass.heard heard) given)
          (told_safely _ _ _ _ _ _ _ _ _ _ _ _ _ _ (length c.args.evening.pass.front) serves nobody);
    })
