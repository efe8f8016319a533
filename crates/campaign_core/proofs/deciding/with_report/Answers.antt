use Rattle.std.proofs.Common.{◌∙◌, sym, ap}
use Rattle.std.proofs.lemmas.Result.{IfOk-weaker}
use Rattle.player_view.specs.View.{is_gm}
use Rattle.campaign_writing.specs.Canonical.{campaign_tree}
use Rattle.campaign_law.specs.Worlds.{opened_of}
use Rattle.entry_outcomes.specs.Steps.{told}
use Rattle.campaign_core.specs.Places.{world_at}
use Rattle.campaign_core.proofs.Reports.{campaign_reported, steps_reported}
use Rattle.campaign_core.proofs.deciding.with_report.Goals as goal

pub returns-then-is_dumped : goal.returns-then-is_dumped
returns-then-is_dumped c =
    let o = c.args.outcome in
    let campaign = campaign_tree (opened_of (world_at c.args.state.now)) in
    let reported = campaign_reported c.args.steps campaign (is_gm c.args.seat) o.done o.book (sym c.is_dumped.ensures ∙ c.if-is_dumped.true) in
    IfOk-weaker c.with_campaign.result _ _ (λ next is. is ∙ ap (λ line. told line o) (sym reported)) c.with_campaign.ensures

pub returns-else-is_dumped : goal.returns-else-is_dumped
returns-else-is_dumped c =
    let o = c.args.outcome in
    let campaign = campaign_tree (opened_of (world_at c.args.state.now)) in
    let reported = steps_reported c.args.steps campaign (is_gm c.args.seat) o.done o.book (sym c.is_dumped.ensures ∙ c.if-is_dumped.false) in
    IfOk-weaker c.with_steps.result _ _ (λ next is. is ∙ ap (λ line. told line o) (sym reported)) c.with_steps.ensures
