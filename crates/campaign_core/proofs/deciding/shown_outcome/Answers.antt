use Rattle.std.proofs.Common.{◌≡◌, ◌∙◌, sym, ap, subst, cond, Some, None}
use Rattle.std.specs.Prelude.{Option, IfSome}
use Rattle.std.proofs.lemmas.List.{length-map}
use Rattle.std.proofs.lemmas.Result.{IfOk-weaker}
use Rattle.world.specs.Scene.{Scene}
use Rattle.player_view.specs.View.{is_gm}
use Rattle.view_rules.specs.Asking.{asked_by}
use Rattle.campaign_law.specs.Outcome.{of_steps, present_outcome, seat_of}
use Rattle.campaign_core.specs.Places.{Place}
use Rattle.campaign_core.proofs.ViewsDecide.{gm_alone}
use Rattle.campaign_core.proofs.deciding.shown_outcome.Goals as goal

pub present_outcome-requires-clause-gm : goal.present_outcome-requires-clause-gm
present_outcome-requires-clause-gm c =
    let scene = c.args.state.now.scene in
    let whole = c.whole_for.ensures ∙ ap (λ q. cond (is_gm q) (Some scene) None) c.seat.ensures in
    subst (λ (o : Option Scene). IfSome o (λ s. seat_of c.args.entry.now ≡ 0)) (sym whole) (gm_alone scene (seat_of c.args.entry.now))

pub returns : goal.returns
returns c =
    let scene = c.args.state.now.scene in
    let seats = c.seats.ensures.value ∙ sym (length-map c.args.state.now.posts (λ (p : Place). p.seat)) in
    let whole = c.whole_for.ensures ∙ ap (λ q. cond (is_gm q) (Some scene) None) c.seat.ensures in
    IfOk-weaker c.present_outcome.result _ _ (λ o is. is ∙ (λ i. present_outcome (asked_by (seats i) c.args.view.now (whole i)) (of_steps 0) c.args.book.now c.args.entry.now)) c.present_outcome.ensures
