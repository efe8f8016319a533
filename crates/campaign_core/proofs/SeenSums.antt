-- Sums over players and over maps.
use Rattle.std.proofs.Common.{◌≡◌, ℕ, ◌+◌, List, take, Some, sym, ◌∙◌, ap, arith}
use Rattle.std.specs.Prelude.{slice_get, sum_by}
use Rattle.std.specs.List.{range_with_len}
use Rattle.std.proofs.lemmas.List.FromFn.{sum_by-map-range_with_len_more}
use Rattle.std.proofs.lemmas.List.Sums.{sum-map, sum_by_more}
use Rattle.std.proofs.lemmas.Option.{get_or_from_slice_get, slice_get_within}

-- with a player more
pub players_more : (f : ℕ → ℕ) (n : ℕ) → sum_by f (range_with_len 1 (n + 1)) ≡ sum_by f (range_with_len 1 n) + f (n + 1)
players_more f n =
    sym (sum-map f (range_with_len 1 (n + 1)))
    ∙ sum_by-map-range_with_len_more (λ m. m) f 1 n (n + 1) (omega arith)
    ∙ ap (λ m. m + f (n + 1)) (sum-map f (range_with_len 1 n))

-- with a map more
pub maps_more : {X : Type 0} (f : X → ℕ) (xs : List X) (i : ℕ) (x : X) → slice_get xs i ≡ Some x → sum_by f (take (i + 1) xs) ≡ sum_by f (take i xs) + f x
maps_more f xs i x at =
    sum_by_more f xs i x (slice_get_within xs i x at) ∙ ap (λ y. sum_by f (take i xs) + f y) (get_or_from_slice_get xs i x x at)
