use Rattle.campaign_scene.specs.Kept.{kept}
use Rattle.campaign_scene.specs.Types.{sight}
use Rattle.campaign_json.proofs.Each.{IsReadOn}
use Rattle.campaign_scene.proofs.types.each_sight.Given as goal

abbrev pub invariant-loop-key : goal.invariant-loop-key
invariant-loop-key l = IsReadOn sight kept l.members.entries l.fn.scene l.key-iterator l.scene
