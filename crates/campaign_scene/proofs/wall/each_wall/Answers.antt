use Rattle.campaign_scene.specs.Kept.{kept}
use Rattle.campaign_scene.specs.Maps.{wall}
use Rattle.campaign_json.proofs.Each.{read_more}
use Rattle.campaign_scene.proofs.wall.each_wall.Goals as goal

pub loop-place-preserved : goal.loop-place-preserved
loop-place-preserved c = read_more (λ place. wall c.args.name c.args.kind) kept c.args.values.now c.args.scene.now c.loop-place.place c.loop-place.scene c.read_wall.new.scene c.index-values-place.result c.loop-place.invariant c.loop-place-test.true c.index-values-place.is c.in-Ok.ensures.exact c.in-Ok.ensures.kept
