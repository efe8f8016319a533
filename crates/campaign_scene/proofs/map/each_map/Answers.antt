use Rattle.campaign_scene.specs.Kept.{kept}
use Rattle.campaign_scene.specs.Maps.{map}
use Rattle.campaign_json.proofs.Each.{read_more}
use Rattle.campaign_scene.proofs.map.each_map.Goals as goal

pub loop-place-preserved : goal.loop-place-preserved
loop-place-preserved c = read_more (λ place. map c.args.format) kept c.args.values.now c.args.scene.now c.loop-place.place c.loop-place.scene c.read_map.new.scene c.index-values-place.result c.loop-place.invariant c.loop-place-test.true c.index-values-place.is c.in-Ok.ensures.exact c.in-Ok.ensures.kept
