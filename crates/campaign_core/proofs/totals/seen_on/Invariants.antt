use Rattle.std.proofs.Common.{◌≡◌}
use Rattle.std.specs.Prelude.{sum_by}
use Rattle.std.specs.List.{range_with_len}
use Rattle.cells.specs.Cells.{count_of}
use Rattle.player_view.specs.Sight.{visible}
use Rattle.campaign_core.proofs.totals.seen_on.Given as goal

-- the cells of the first so many players
abbrev pub invariant-loop-number : goal.invariant-loop-number
invariant-loop-number l = l.total ≡ sum_by (λ p. count_of (visible l.scene p l.map)) (range_with_len 1 l.number)
