use Rattle.std.proofs.Common.{◌≡◌, take}
use Rattle.std.specs.Prelude.{sum_by}
use Rattle.campaign_core.specs.Totals.{seen_on}
use Rattle.campaign_core.proofs.totals.seen_total.Given as goal

-- the cells of the first so many maps
abbrev pub invariant-loop-place : goal.invariant-loop-place
invariant-loop-place l = l.total ≡ sum_by (seen_on l.scene) (take l.place l.scene.maps)
