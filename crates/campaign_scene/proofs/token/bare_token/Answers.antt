use Rattle.campaign_scene.proofs.Tokens.{bare_belongs}
use Rattle.campaign_scene.proofs.token.bare_token.Goals as goal

pub returns-clause-fitting : goal.returns-clause-fitting
returns-clause-fitting c = bare_belongs c.args.scene.now c.in_ok-map.map c.in_ok-cell.cell c.in_ok-size.field-0 c.none.result c.in_ok-map.extent c.in_ok-map.ensures.there c.in_ok-cell.ensures.fitting c.none.ensures
