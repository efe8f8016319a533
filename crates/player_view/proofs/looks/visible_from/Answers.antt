use Rattle.std.proofs.Common.{sym, ◌∙◌}
use Rattle.player_view.proofs.SceneLemmas.{itself_found, name_found}
use Rattle.player_view.proofs.looks.visible_from.Goals as goal

pub look_at-requires-clause-there : goal.look_at-requires-clause-there
look_at-requires-clause-there c = itself_found c.args.scene.now.maps c.args.map c.in-Some.grid.now (sym c.in-Some.ensures)

pub look_at-requires-clause-name : goal.look_at-requires-clause-name
look_at-requires-clause-name c = c.requires.name ∙ sym (name_found c.args.scene.now.maps c.args.map c.in-Some.grid.now (sym c.in-Some.ensures))
