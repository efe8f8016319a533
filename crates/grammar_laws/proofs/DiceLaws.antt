-- The laws of dice texts.
use Rattle.std.proofs.Common.{◌≡◌, ◌-◌, ℕ, Bool, true, false, List, length, Ok, Err, refl, sym, ap, ◌∙◌, subst, inl, inr}
use Rattle.std.specs.Prelude.{Result}
use Rattle.dice_parse.specs.declared.parts.Term.{Term}
use Rattle.dice_parse.specs.declared.texts.DiceFault.{DiceFault}
use Rattle.dice_parse.specs.declared.texts.DiceFault.TheVariants.{BadDice, DiceLimit, Memory}
use Rattle.dice_parse.specs.Grammar.{IsDice, IsWithin}
use Rattle.dice_parse.specs.Faults.{IsFaultOf}
use Rattle.dice_parse.specs.Readers.{dice_at}
use Rattle.dice_parse.specs.Answers.{is_within, dice_of}
use Rattle.dice_parse.proofs.Back.{dice_back}
use Rattle.dice_parse.proofs.Exact.{no_dice, one_reading}
use Rattle.dice_parse.proofs.Limits.{within_to, within_from, dice_fit, dice_too_much, dice_bad}
use Rattle.grammar_laws.proofs.Whole.{Told, longest_same}
use Rattle.grammar_laws.proofs.DiceTurns.{dice_told}

-- what the grammar says of an answer
abbrev Says : List ℕ → Result (List Term) DiceFault → Type 0
Says s (Ok terms) = IsDice s terms × IsWithin terms
Says s (Err (BadDice at)) = IsFaultOf s (BadDice at)
Says s (Err DiceLimit) = IsFaultOf s DiceLimit
Says s (Err Memory) = ⊥

off_limits : (terms : List Term) → is_within terms ≡ false → IsWithin terms → ⊥
off_limits terms e h = let f : ◌≡◌ {A = Bool} true false = sym (within_from terms h) ∙ e in absurd cc

by_limits : (s : List ℕ) (terms : List Term) (v : Bool) → is_within terms ≡ v → IsDice s terms → Says s (dice_of s)
by_limits s terms true e h =
    let a = dice_fit s terms (λ turns lt. dice_back turns s terms h lt) e in
    subst (Says s) (sym a) (h, within_to terms e)
by_limits s terms false e h =
    let a = dice_too_much s terms (λ turns lt. dice_back turns s terms h lt) e in
    subst (Says s) (sym a) (terms, h, off_limits terms e)

by_told : (s : List ℕ) → Told dice_at IsDice s → Says s (dice_of s)
by_told s (inl (terms, h, told)) = by_limits s terms (is_within terms) refl h
by_told s (inr (r, told)) =
    let a = dice_bad s r (length s - length r) told refl in
    let k = no_dice s r told in
    subst (Says s) (sym a) (k.1, k.2)

-- of the answer the grammar says so
pub dice_says : (s : List ℕ) → Says s (dice_of s)
dice_says s = by_told s (dice_told s)

-- ---- and of one answer at most

same_answer : (s : List ℕ) (a b : Result (List Term) DiceFault) → Says s a → Says s b → a ≡ b
same_answer s (Ok xs) (Ok ys) g h = ap Ok (one_reading s xs ys g.0 h.0)
same_answer s (Ok xs) (Err (BadDice at)) g h = absurd (h.0 xs g.0)
same_answer s (Ok xs) (Err DiceLimit) g (ys, h, off) = absurd (off (subst IsWithin (one_reading s xs ys g.0 h) g.1))
same_answer s (Err (BadDice at)) (Ok ys) g h = absurd (g.0 ys h.0)
same_answer s (Err (BadDice at)) (Err (BadDice to)) g h = ap (λ n. Err (BadDice n)) (longest_same IsDice s at to g.1 h.1)
same_answer s (Err (BadDice at)) (Err DiceLimit) g (ys, h, off) = absurd (g.0 ys h)
same_answer s (Err DiceLimit) (Ok ys) (xs, g, off) h = absurd (off (subst IsWithin (one_reading s ys xs h.0 g) h.1))
same_answer s (Err DiceLimit) (Err (BadDice at)) (xs, g, off) h = absurd (h.0 xs g)
same_answer s (Err DiceLimit) (Err DiceLimit) g h = refl
same_answer s a (Err Memory) g h = absurd h
same_answer s (Err Memory) b g h = absurd g

pub dice_to : (s : List ℕ) (a : Result (List Term) DiceFault) → dice_of s ≡ a → Says s a
dice_to s a e = subst (Says s) e (dice_says s)

pub dice_from : (s : List ℕ) (a : Result (List Term) DiceFault) → Says s a → dice_of s ≡ a
dice_from s a h = same_answer s (dice_of s) a (dice_says s) h
