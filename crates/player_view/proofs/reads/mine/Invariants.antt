use Rattle.std.proofs.Common.{◌≡◌, ◌&&◌, drop}
use Rattle.std.specs.List.{find}
use Rattle.tokens.specs.Tokens.{has_id}
use Rattle.player_view.specs.View.{acts_on}
use Rattle.player_view.proofs.reads.mine.Given as goal

abbrev pub invariant-loop-place : goal.invariant-loop-place
invariant-loop-place l =
    find (λ t. has_id l.id t && acts_on l.scene l.seat t) (drop l.place l.scene.tokens)
    ≡ find (λ t. has_id l.id t && acts_on l.scene l.seat t) l.scene.tokens
