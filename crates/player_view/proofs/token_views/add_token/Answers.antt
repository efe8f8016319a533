use Rattle.std.proofs.Common.{◌≡◌, ◌∙◌, true, false, arith, rules}
use Rattle.player_view.specs.View.{has_token, token_view}
use Rattle.player_view.proofs.ListLemmas.{none_kept, one_kept}
use Rattle.player_view.proofs.token_views.add_token.Goals as goal

pub returns-then-not-has_token : goal.returns-then-not-has_token
returns-then-not-has_token c =
    let no : false ≡ has_token c.args.scene.now c.args.seat c.token_at-token.result.now = first_of (cc, grind arith, search rules) in
    none_kept (token_view c.args.scene.now c.args.seat) (has_token c.args.scene.now c.args.seat) c.args.scene.now.tokens c.args.place
    c.token_at-token.result.now c.args.list.now.items c.requires.so_far c.token_at-token.ensures.value no

pub returns : goal.returns
returns c =
    let yes : true ≡ has_token c.args.scene.now c.args.seat c.token_at-token.result.now = first_of (cc, grind arith, search rules) in
    c.in_ok-push_token.ensures
    ∙ one_kept (token_view c.args.scene.now c.args.seat) (has_token c.args.scene.now c.args.seat) c.args.scene.now.tokens c.args.place
    c.token_at-token.result.now c.args.list.now.items c.in_ok-view.view c.requires.so_far c.token_at-token.ensures.value yes
    c.in_ok-view.ensures
