use Rattle.std.proofs.Common.{◌&&◌}
use Rattle.tokens.specs.Tokens.{has_id}
use Rattle.player_view.specs.View.{acts_on}
use Rattle.player_view.proofs.ListLemmas.{find_here, find_on}
use Rattle.player_view.proofs.reads.mine.Goals as goal

pub returns-then-is_mine : goal.returns-then-is_mine
returns-then-is_mine c =
    find_here (λ t. has_id c.args.id t && acts_on c.args.scene.now c.args.seat t) c.args.scene.now.tokens c.loop-place.place
    c.token_at-token.result.now c.token_at-token.ensures.value c.if-is_mine.ensures c.loop-place.invariant

pub loop-place-preserved : goal.loop-place-preserved
loop-place-preserved c =
    find_on (λ t. has_id c.args.id t && acts_on c.args.scene.now c.args.seat t) c.args.scene.now.tokens c.loop-place.place
    c.token_at-token.result.now c.token_at-token.ensures.value c.if-is_mine.ensures c.loop-place.invariant
