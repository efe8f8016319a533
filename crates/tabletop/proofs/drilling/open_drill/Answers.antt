use Rattle.std.proofs.Common.{ap, sym, ◌∙◌}
use Rattle.campaign_core.specs.Opening.{world_of_text}
use Rattle.tabletop.proofs.DrillLemmas.{drill_opens}
use Rattle.tabletop.proofs.DrillScripts.{script_ends}
use Rattle.tabletop.proofs.drilling.open_drill.Goals as goal

pub returns-in-Ok-clause-campaign : goal.returns-in-Ok-clause-campaign
returns-in-Ok-clause-campaign g c = drill_opens c.args.number _ c.in-Ok.campaign (g.E.Eye.looks_made c.args.eye) c.in_ok-text.ensures.opens c.requires.eye (ap world_of_text (sym c.bytes.ensures) ∙ c.in-Ok.ensures.world) c.in-Ok.ensures.opening c.in-Ok.ensures.history c.in-Ok.ensures.looks

pub returns-in-Ok-clause-done : goal.returns-in-Ok-clause-done
returns-in-Ok-clause-done g c = script_ends c.args.number c.args.lines c.in_ok-text.script c.requires.most c.in_ok-text.ensures.playable
