use Rattle.std.proofs.Common.{◌≡◌, ◌∙◌, true, false, arith, rules}
use Rattle.player_view.specs.View.{has_map, map_view}
use Rattle.player_view.proofs.ListLemmas.{none_kept, one_kept}
use Rattle.player_view.proofs.map_views.add_map.Goals as goal

pub returns-then-not-has_map : goal.returns-then-not-has_map
returns-then-not-has_map c =
    let no : false ≡ has_map c.args.seat c.map_at-map.result.now = first_of (cc, grind arith, search rules) in
    none_kept (map_view c.args.scene.now c.args.seat) (has_map c.args.seat) c.args.scene.now.maps c.args.place c.map_at-map.result.now
    c.args.list.now.items c.requires.so_far c.map_at-map.ensures.value no

pub returns : goal.returns
returns c =
    let yes : true ≡ has_map c.args.seat c.map_at-map.result.now = first_of (cc, grind arith, search rules) in
    c.in_ok-push_map.ensures
    ∙ one_kept (map_view c.args.scene.now c.args.seat) (has_map c.args.seat) c.args.scene.now.maps c.args.place c.map_at-map.result.now
    c.args.list.now.items c.in_ok-view.view c.requires.so_far c.map_at-map.ensures.value yes c.in_ok-view.ensures
