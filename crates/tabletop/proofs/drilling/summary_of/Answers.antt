use Rattle.tabletop.proofs.DrillLemmas.{drill_is_done, drills, ready_drill}
use Rattle.tabletop.proofs.drilling.summary_of.Goals as goal

pub play_drill-summary-requires-clause-opens : goal.play_drill-summary-requires-clause-opens
play_drill-summary-requires-clause-opens g c = ready_drill c.args.number c.args.lines c.in_ok-campaign.campaign c.in_ok-campaign.script c.in_ok-campaign.ensures.campaign c.in_ok-campaign.ensures.script

pub play_drill-summary-requires-clause-done : goal.play_drill-summary-requires-clause-done
play_drill-summary-requires-clause-done g c = drill_is_done c.args.number c.args.lines c.in_ok-campaign.campaign c.in_ok-campaign.script c.in_ok-campaign.ensures.campaign c.in_ok-campaign.ensures.script c.in_ok-campaign.ensures.done

pub returns : goal.returns
returns g c = drills c.args.number c.args.lines c.in_ok-campaign.campaign c.in_ok-campaign.script c.in_ok-campaign.ensures.campaign c.in_ok-campaign.ensures.script c.play_drill-summary.result c.play_drill-summary.ensures.number c.play_drill-summary.ensures.counts
