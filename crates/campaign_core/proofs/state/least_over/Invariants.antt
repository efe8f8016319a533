use Rattle.std.proofs.Common.{◌≡◌, drop, map}
use Rattle.campaign_core.specs.Places.{posted}
use Rattle.campaign_core.specs.Over.{least_post_over}
use Rattle.campaign_core.proofs.state.least_over.Given as goal

-- the posts that are left answer for all
abbrev pub invariant-loop-post : goal.invariant-loop-post
invariant-loop-post l = (l.number ≡ l.post-index) × (least_post_over l.number (map posted (drop l.number l.posts)) ≡ least_post_over 0 (map posted l.posts))
