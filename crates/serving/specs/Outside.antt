-- The outside of a hall, as far as it is told.
use Rattle.std.specs.Prelude.{ℕ, List, Option}

-- a door, a spawner and an output: the connections that are to come and those that were given back, how many sessions were started
-- and how many calls for one failed, and what the output took and how many of its calls failed
pub record Outside (In Out : Type 0) : Type 0 where
  pub coming : Option (List (In × Out))
  pub ended : Option (List (In × Out))
  pub started : Option ℕ
  pub busy : ℕ
  pub written : Option (List ℕ)
  pub out_faults : ℕ

abbrev pub as_told : {In Out : Type 0} → (coming ended : Option (List (In × Out))) (started : Option ℕ) (busy : ℕ) (written : Option (List ℕ)) (out_faults : ℕ) → Outside In Out
as_told coming ended started busy written out_faults = record { coming = coming; ended = ended; started = started; busy = busy; written = written; out_faults = out_faults }

-- the output has taken so much by then, and so many of its calls failed
abbrev pub with_output : {In Out : Type 0} → Outside In Out → Option (List ℕ) → ℕ → Outside In Out
with_output outside written out_faults = record outside { written = written; out_faults = out_faults }
