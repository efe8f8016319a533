use Rattle.std.proofs.Common.{[], ℕ}
use Rattle.campaign_scene.specs.Tokens.{property}
use Rattle.campaign_json.proofs.Each.{IsReadTo}
use Rattle.campaign_scene.proofs.property.each_property.Given as goal

abbrev pub invariant-loop-place : goal.invariant-loop-place
invariant-loop-place l = IsReadTo {K = ℕ} (λ place. property) (λ p. 0) l.values [] l.place l.props
