use Rattle.transcript_check.specs.Checks.{IsFaultOf}
use Rattle.transcript_check.proofs.Results.{on_err}
use Rattle.transcript_check.proofs.tracing.trace_in.Goals as goal

pub returns-in_err-campaign-clause-fault : goal.returns-in_err-campaign-clause-fault
returns-in_err-campaign-clause-fault c = on_err (IsFaultOf c.args.second c.args.text.now c.args.script.now) c.from_residual.result c.in_err-campaign.field-0.0 c.from_residual.ensures.1 (c.in_err-campaign.ensures.fault c.args.script.now)

pub returns-in-Err-clause-fault : goal.returns-in-Err-clause-fault
returns-in-Err-clause-fault c = c.fault_of.ensures c.args.text.now c.args.script.now c.in_ok-campaign.campaign.origin c.in_ok-campaign.ensures.world c.in-Err.ensures.stopped

pub returns-in-Ok-clause-traced : goal.returns-in-Ok-clause-traced
returns-in-Ok-clause-traced c = c.in-Ok.ensures.traced c.args.text.now c.in_ok-campaign.ensures.world c.in_ok-campaign.ensures.fits c.in_ok-campaign.ensures.tables c.in_ok-campaign.ensures.seats
