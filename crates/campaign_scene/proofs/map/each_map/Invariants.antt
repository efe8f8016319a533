use Rattle.campaign_scene.specs.Kept.{kept}
use Rattle.campaign_scene.specs.Maps.{map}
use Rattle.campaign_json.proofs.Each.{IsReadTo}
use Rattle.campaign_scene.proofs.map.each_map.Given as goal

abbrev pub invariant-loop-place : goal.invariant-loop-place
invariant-loop-place l = IsReadTo (λ place. map l.format) kept l.values l.fn.scene l.place l.scene
