use Rattle.campaign_scene.specs.Kept.{kept_by}
use Rattle.campaign_scene.specs.Tokens.{token}
use Rattle.campaign_json.proofs.Each.{IsReadTo}
use Rattle.campaign_scene.proofs.token.each_token.Given as goal

abbrev pub invariant-loop-place : goal.invariant-loop-place
invariant-loop-place l = IsReadTo (λ place. token l.books) (kept_by l.books) l.values l.fn.scene l.place l.scene
