use Rattle.player_view.proofs.FoundLemmas.{none_seen}
use Rattle.player_view.proofs.ToldLemmas.{told_if_ok}
use Rattle.player_view.proofs.ViewIs.{view_is_if_ok}
use Rattle.player_view.proofs.seat_view.view_of.Goals as goal

pub returns-clause-is_view : goal.returns-clause-is_view
returns-clause-is_view c =
    view_is_if_ok c.args.scene.now c.args.seat c.seat_view.result c.open_tables.ensures c.requires.seat c.seat_view.ensures

pub returns-clause-told : goal.returns-clause-told
returns-clause-told c player =
    told_if_ok c.args.scene.now c.args.seat c.seat_view.result c.open_tables.ensures c.seat_view.ensures player

pub seat_view-requires-clause-seen : goal.seat_view-requires-clause-seen
seat_view-requires-clause-seen c = none_seen c.args.scene.now
