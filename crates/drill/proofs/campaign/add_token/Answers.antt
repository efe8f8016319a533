use Rattle.drill.specs.Campaign.{tokens_up_to, walls_up_to}
use Rattle.drill.specs.Script.{IsOnMap}
use Rattle.drill.proofs.Tokens.{absent_from, cell_of_token, fits_scene, one_token, used_by_maker}
use Rattle.drill.proofs.campaign.add_token.Goals as goal

pub put_token-requires-clause-absent : goal.put_token-requires-clause-absent
put_token-requires-clause-absent c =
    let n = c.args.draws.now.number in
    absent_from n c.args.number (walls_up_to n 600) c.args.world.now c.in_ok-token.token c.requires.world (c.in_ok-token.ensures n c.draw_cell-cell.ensures.cell) c.requires.few

pub put_token-requires-clause-used : goal.put_token-requires-clause-used
put_token-requires-clause-used c =
    let n = c.args.draws.now.number in
    used_by_maker n c.args.number (walls_up_to n 600) (tokens_up_to n c.args.number) c.args.world.now c.in_ok-token.token c.requires.world (c.in_ok-token.ensures n c.draw_cell-cell.ensures.cell) c.requires.few

pub put_token-requires-clause-fitting : goal.put_token-requires-clause-fitting
put_token-requires-clause-fitting c =
    let n = c.args.draws.now.number in
    let is = c.in_ok-token.ensures n c.draw_cell-cell.ensures.cell in
    let on : IsOnMap c.in_ok-token.token.cell = cell_of_token n c.args.number c.draw_cell-cell.result c.in_ok-token.token c.draw_cell-cell.ensures.cell is c.draw_cell-cell.ensures.on in
    fits_scene n c.args.number (walls_up_to n 600) (tokens_up_to n c.args.number) c.args.world.now c.in_ok-token.token c.requires.world is on.0 on.1

pub returns-clause-token : goal.returns-clause-token
returns-clause-token c =
    let n = c.args.draws.now.number in
    one_token n c.args.number c.args.world.now c.put_token.new.world c.in_ok-token.token c.requires.world (c.in_ok-token.ensures n c.draw_cell-cell.ensures.cell) c.in_ok-put_token.ensures
