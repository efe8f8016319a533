use Rattle.campaign_scene.specs.Kept.{kept}
use Rattle.campaign_scene.specs.Fog.{run}
use Rattle.campaign_json.proofs.Each.{IsReadTo}
use Rattle.campaign_scene.proofs.fog.each_run.Given as goal

abbrev pub invariant-loop-place : goal.invariant-loop-place
invariant-loop-place l = IsReadTo (λ place. run l.seat l.name) kept l.values l.fn.scene l.place l.scene
