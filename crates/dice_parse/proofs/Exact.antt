-- What reading dice tells of a text.
use Rattle.std.proofs.Common.{◌≡◌, ℕ, suc, ◌-◌, ◌<◌, ◌≤◌, List, [], length, Option, Some, None, arith, sym, ◌∙◌}
use Rattle.dice_parse.specs.declared.parts.Term.{Term}
use Rattle.reading.specs.Reading.{IsLongest}
use Rattle.dice_parse.specs.Grammar.{IsDice}
use Rattle.dice_parse.specs.Readers.{dice_at}
use Rattle.dice_parse.proofs.Words.{reads_dice}
use Rattle.dice_parse.proofs.Back.{dice_back}
use Rattle.reading.proofs.Pairs.{same_pair}
use Rattle.reading.proofs.Longest.{found, off, longest}

pub found_dice : (s : List ℕ) (ts : List Term) → ((turns : ℕ) → length s < turns → dice_at turns s ≡ (Some ts, [])) → IsDice s ts
found_dice s ts h = found dice_at IsDice reads_dice dice_back s ts (suc (length s)) (h (suc (length s)) (omega arith))

pub no_dice : (s r : List ℕ) → ((turns : ℕ) → length s < turns → dice_at turns s ≡ (None, r)) → (length r ≤ length s) × ((ts : List Term) → IsDice s ts → ⊥) × IsLongest IsDice s (length s - length r)
no_dice s r h = let k = longest dice_at IsDice reads_dice dice_back s r h in (k.0, off dice_at IsDice reads_dice dice_back s r h, k.1)

same_some : (a b : List Term) → ◌≡◌ {A = Option (List Term)} (Some a) (Some b) → a ≡ b
same_some a b e = cc

-- a text is spelled by one list of terms
pub one_reading : (s : List ℕ) (a b : List Term) → IsDice s a → IsDice s b → a ≡ b
one_reading s a b g h =
    let n = suc (length s) in
    same_some a b (same_pair (Some a) (Some b) [] [] (sym (dice_back n s a g (omega arith)) ∙ dice_back n s b h (omega arith))).0
