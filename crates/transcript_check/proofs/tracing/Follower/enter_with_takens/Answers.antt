use Rattle.transcript_check.proofs.Histories.{takens_enter}
use Rattle.transcript_check.proofs.Results.{on_ok}
use Rattle.transcript_check.proofs.tracing.Follower.enter_with_takens.Goals as goal

pub returns-clause-history : goal.returns-clause-history
returns-clause-history g c =
    on_ok c.enter_all.result
    (λ all. takens_enter c.args.campaign.now c.enter.new.campaign c.enter_all.new.campaign c.args.entry c.in_ok-due.due.items (record { origin = c.enter.ensures.origin; history = c.in_ok-enter.ensures.history }) c.in_ok-due.ensures all)
    c.enter_all.ensures.history
