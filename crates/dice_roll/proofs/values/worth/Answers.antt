use Rattle.std.proofs.Common.{ℕ, ◌≤◌, ◌∙◌, ap, sum, drop, arith}
use Rattle.std.proofs.lemmas.List.Sorted.{All-permutation, IsNonDecreasingBy-from_sort}
use Rattle.dice_roll.proofs.Order.{sorted_is_ascending}
use Rattle.dice_roll.proofs.values.worth.Goals as goal

pub total_from-requires-clause-small : goal.total_from-requires-clause-small
total_from-requires-clause-small c = All-permutation (λ x. x ≤ 1000) c.args.values.now c.sort_unstable.new.self c.sort_unstable.ensures.permutation c.requires.small

pub total_from-requires-in-Lose-clause-small : goal.total_from-requires-in-Lose-clause-small
total_from-requires-in-Lose-clause-small c = All-permutation (λ x. x ≤ 1000) c.args.values.now c.sort_unstable-in-Lose.new.self c.sort_unstable-in-Lose.ensures.permutation c.requires.small

pub returns-in-Keep-clause-value : goal.returns-in-Keep-clause-value
returns-in-Keep-clause-value c =
    let up = IsNonDecreasingBy-from_sort (λ x. x) c.sort_unstable.new.self c.sort_unstable.ensures.sorted in
    let same = sorted_is_ascending c.args.values.now c.sort_unstable.new.self c.sort_unstable.ensures.permutation up in
    let len = c.sort_unstable.ensures.len in let place = c.saturating_sub.ensures in
    rw (c.in-Some.is, c.in-Keep.is, ← same) (c.total_from.ensures.value ∙ ap (λ (n : ℕ). sum (drop n c.sort_unstable.new.self)) (omega arith))

pub returns-in-Lose-clause-value : goal.returns-in-Lose-clause-value
returns-in-Lose-clause-value c =
    let up = IsNonDecreasingBy-from_sort (λ x. x) c.sort_unstable-in-Lose.new.self c.sort_unstable-in-Lose.ensures.sorted in
    let same = sorted_is_ascending c.args.values.now c.sort_unstable-in-Lose.new.self c.sort_unstable-in-Lose.ensures.permutation up in
    rw (c.in-Some.is, c.in-Lose.is, ← same) c.total_from-in-Lose.ensures.value
