use Rattle.std.proofs.Common.{refl, [], ℕ}
use Rattle.campaign_scene.specs.Tokens.{property}
use Rattle.campaign_json.proofs.Each.{read_more}
use Rattle.campaign_scene.proofs.property.each_property.Goals as goal

pub loop-place-preserved : goal.loop-place-preserved
loop-place-preserved c = read_more {K = ℕ} (λ place. property) (λ p. 0) c.args.values.now [] c.loop-place.place c.loop-place.props c.in-Ok.next c.index-values-place.result c.loop-place.invariant c.loop-place-test.true c.index-values-place.is c.in-Ok.ensures refl
