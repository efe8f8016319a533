-- Reading the items of a list one after the other, as a loop does.
use Rattle.std.proofs.Common.{List, ◌++◌, Option, option_map}

-- what was read before, and what is still read
abbrev pub with_front : {A : Type 0} → List A → Option (List A) → Option (List A)
with_front {A} front read = option_map (λ rest. front ++ rest) read
