use Rattle.campaign_scene.specs.Kept.{kept}
use Rattle.campaign_scene.specs.Fog.{fog_of_map}
use Rattle.campaign_json.proofs.Each.{IsReadOn}
use Rattle.campaign_scene.proofs.fog.each_map.Given as goal

abbrev pub invariant-loop-key : goal.invariant-loop-key
invariant-loop-key l = IsReadOn (fog_of_map l.seat) kept l.members.entries l.fn.scene l.key-iterator l.scene
