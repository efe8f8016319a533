use Rattle.std.proofs.Common.{◌∙◌, ap}
use Rattle.std.proofs.lemmas.Result.{IfOk-weaker}
use Rattle.player_view.specs.Asked.{asked_of_view}
use Rattle.campaign_law.specs.Outcome.{Outcome, of_steps}
use Rattle.entry_outcomes.specs.Steps.{report_line, told}
use Rattle.entry_outcomes.proofs.Steps.{told_at}
use Rattle.player_machine.proofs.own_entry.own_outcome.Goals as goal

pub returns : goal.returns
returns c =
    let m = c.args.machine.now in
    IfOk-weaker c.with_steps.result _ _
    (λ o is. is ∙ ap (λ (s : Outcome). told (report_line (of_steps c.args.steps) s) s) c.in_ok-still.ensures
    ∙ told_at (asked_of_view m.seats m.last) (of_steps c.args.steps) m.seat c.args.entry.now) c.with_steps.ensures
