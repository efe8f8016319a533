-- Macros that are copied.
use Rattle.std.proofs.Common.{◌≡◌, ℕ, List}
use Rattle.type_table.specs.Types.{AreCopies}
use Rattle.type_table.proofs.Tables.{same-AreCopies}

-- copies of texts are the texts
pub same_macros : (macros copies : List (List ℕ × List ℕ)) → AreCopies (λ text copy. copy ≡ text) macros copies → copies ≡ macros
same_macros macros copies h = same-AreCopies (λ text copy. copy ≡ text) (λ text copy e. e) macros copies h
