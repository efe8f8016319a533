use Rattle.std.proofs.Common.{ap, ◌∙◌}
use Rattle.campaign_scene.specs.Maps.{frame, row}
use Rattle.campaign_json.proofs.Each.{read_more}
use Rattle.campaign_scene.proofs.map.each_row.Goals as goal

pub read_row-requires-clause-there : goal.read_row-requires-clause-there
read_row-requires-clause-there c = ap (λ p. p.1) c.loop-place.invariant.kept ∙ c.requires.there

pub loop-place-preserved : goal.loop-place-preserved
loop-place-preserved c = read_more (row c.args.name c.args.size.w) (frame c.args.name) c.args.values.now c.args.scene.now c.loop-place.place c.loop-place.scene c.read_row.new.scene c.index-values-place.result c.loop-place.invariant c.loop-place-test.true c.index-values-place.is c.in-Ok.ensures.exact c.in-Ok.ensures.kept
