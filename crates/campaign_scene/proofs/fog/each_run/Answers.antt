use Rattle.std.proofs.Common.{ap, ◌∙◌}
use Rattle.world.specs.Rules.{is_player}
use Rattle.campaign_scene.specs.Kept.{kept}
use Rattle.campaign_scene.specs.Fog.{run}
use Rattle.campaign_json.proofs.Each.{read_more}
use Rattle.campaign_scene.proofs.fog.each_run.Goals as goal

pub read_run-requires : goal.read_run-requires
read_run-requires c = ap (λ k. is_player k.0 c.args.seat) c.loop-place.invariant.kept ∙ c.requires

pub loop-place-preserved : goal.loop-place-preserved
loop-place-preserved c = read_more (λ place. run c.args.seat c.args.name) kept c.args.values.now c.args.scene.now c.loop-place.place c.loop-place.scene c.read_run.new.scene c.index-values-place.result c.loop-place.invariant c.loop-place-test.true c.index-values-place.is c.in-Ok.ensures.exact c.in-Ok.ensures.kept
