use Rattle.campaign_scene.specs.Kept.{kept}
use Rattle.campaign_scene.specs.Types.{light}
use Rattle.campaign_json.proofs.Each.{IsReadOn}
use Rattle.campaign_scene.proofs.types.each_light.Given as goal

abbrev pub invariant-loop-key : goal.invariant-loop-key
invariant-loop-key l = IsReadOn (light l.format) kept l.members.entries l.fn.scene l.key-iterator l.scene
