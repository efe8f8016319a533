use Rattle.campaign_scene.specs.Kept.{kept_by}
use Rattle.campaign_scene.specs.Tokens.{token}
use Rattle.campaign_json.proofs.Each.{read_more}
use Rattle.campaign_scene.proofs.token.each_token.Goals as goal

pub loop-place-preserved : goal.loop-place-preserved
loop-place-preserved c = read_more (λ place. token c.args.books.now) (kept_by c.args.books.now) c.args.values.now c.args.scene.now c.loop-place.place c.loop-place.scene c.read_token.new.scene c.index-values-place.result c.loop-place.invariant c.loop-place-test.true c.index-values-place.is c.in-Ok.ensures.exact c.in-Ok.ensures.kept
