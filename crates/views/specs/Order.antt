-- Lists in the order of a key.
use Rattle.std.specs.Prelude.{Bool, List, map, Option}
use Rattle.std.specs.declared.cmp.Ordering.{Ordering}
use Rattle.std.specs.FinMap.Entries.{find, is_sorted}

module _ {X K : Type 0} (R : K → K → Ordering) (key : X → K) where
  abbrev pub keyed : List X → List (K × X)
  keyed xs = map (λ x. (key x, x)) xs

  -- the item with this key
  abbrev pub at : K → List X → Option X
  at k xs = find R k (keyed xs)

  -- the keys rise: none is there twice
  abbrev pub in_order : List X → Bool
  in_order xs = is_sorted R (keyed xs)
