use Rattle.campaign_scene.specs.Kept.{kept}
use Rattle.campaign_scene.specs.Maps.{wall}
use Rattle.campaign_json.proofs.Each.{IsReadTo}
use Rattle.campaign_scene.proofs.wall.each_wall.Given as goal

abbrev pub invariant-loop-place : goal.invariant-loop-place
invariant-loop-place l = IsReadTo (λ place. wall l.name l.kind) kept l.values l.fn.scene l.place l.scene
