use Rattle.std.proofs.Common.{◌≡◌, ◌∙◌, ap, arith}
use Rattle.std.specs.List.{filter, range_with_len}
use Rattle.tokens.specs.Owners.{has_owner}
use Rattle.player_view.proofs.token_views.all_owners.Goals as goal

pub returns : goal.returns
returns c =
    let end : c.loop-number.number ≡ 33 = omega arith in
    c.loop-number.invariant ∙ ap (λ n. filter (has_owner c.args.owners) (range_with_len 0 n)) end
