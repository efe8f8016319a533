use Rattle.std.proofs.Common.{◌≡◌, false, subst}
use Rattle.std.specs.Prelude.{IfSome}
use Rattle.player_view.specs.View.{view_of}
use Rattle.campaign_core.specs.Shown.{IsPlacing}
use Rattle.campaign_core.proofs.Lines.{placed_told}
use Rattle.campaign_core.proofs.queues.line_still.Goals as goal

pub returns-in-Some : goal.returns-in-Some
returns-in-Some c =
    let before = view_of c.args.glances.now.before.now c.args.seat in
    let after = view_of c.args.glances.now.after.now c.args.seat in
    let told : (c.args.full ≡ false) × IsPlacing c.in-Some.placed before after =
    subst (λ o. IfSome o (λ p. (c.args.full ≡ false) × IsPlacing p before after)) c.in-Some.is c.requires.placed in
    placed_told c.in-Some.placed c.args.full c.args.kept.now before after c.placed_line.result told c.requires.kept c.placed_line.ensures
