use Rattle.std.proofs.Common.{◌∙◌, sym, ap}
use Rattle.campaign_law.specs.Law.{world_of}
use Rattle.script_play.specs.Script.{entry_of_line}
use Rattle.transcript_check.proofs.PlayedLines.{stops_past, stops_bad}
use Rattle.transcript_check.proofs.tracing.Follower.play_line.Goals as goal

pub returns-then-is_past_limits-clause-stopped : goal.returns-then-is_past_limits-clause-stopped
returns-then-is_past_limits-clause-stopped g c = λ lines. stops_past (world_of c.args.campaign.now) c.args.number c.args.line.now lines (sym c.is_past_limits.ensures ∙ c.if-is_past_limits.true)

pub returns-in-Ok-None-clause-stopped : goal.returns-in-Ok-None-clause-stopped
returns-in-Ok-None-clause-stopped g c = λ lines.
    stops_bad (world_of c.args.campaign.now) c.args.number c.args.line.now lines (sym c.is_past_limits.ensures ∙ c.if-is_past_limits.false)
    (ap (entry_of_line (world_of c.args.campaign.now)) (sym c.in-Ok.ensures) ∙ sym c.in-Ok-None.ensures ∙ c.in-Ok-None.field-0-is)
