use Rattle.std.proofs.Common.{◌∙◌, ap}
use Rattle.player_view.proofs.ListLemmas.{one_taken}
use Rattle.player_view.proofs.token_views.add_prop.Goals as goal

pub returns : goal.returns
returns c =
    c.in_ok-push_prop.ensures
    ∙ one_taken c.args.props.now c.args.place (c.at-name.result.0, c.at-name.result.1.now) c.args.list.now.items
    (c.at-name.result.0, c.in_ok-value.value) c.requires.so_far c.at-name.ensures.entry
    (ap (λ value. (c.at-name.result.0, value)) c.in_ok-value.ensures)
