use Rattle.std.proofs.Common.{◌≡◌, ℕ, ◌≤◌, ◌<◌, true, take, length, get_or}
use Rattle.views.specs.Order.{in_order}
use Rattle.view_change.specs.Keyed.{is_in, puts_from}
use Rattle.view_change.proofs.news.walked.Given as goal

abbrev pub invariant-loop-item : goal.invariant-loop-item
invariant-loop-item g l =
    (l.list.items ≡ puts_from g.T.Keyed.same l.before (take l.item-index l.after))
    × (in_order g.T.Keyed.order g.T.Keyed.key l.left ≡ true)
    × ((k : ℕ) (d : g.row.T.Denot) → l.item-index ≤ k → k < length l.after → is_in g.T.Keyed.same l.left (get_or l.after k d) ≡ is_in g.T.Keyed.same l.before (get_or l.after k d))
