use Rattle.std.proofs.Common.{sym}
use Rattle.player_view.proofs.SceneLemmas.{itself_found}
use Rattle.player_view.proofs.looks.visible_of.Goals as goal

pub look_over-requires-clause-there : goal.look_over-requires-clause-there
look_over-requires-clause-there c = itself_found c.args.scene.now.maps c.args.map c.in-Some.grid.now (sym c.in-Some.ensures)
