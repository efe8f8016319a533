-- The laws of macro texts.
use Rattle.std.proofs.Common.{◌≡◌, ◌-◌, ℕ, Bool, true, false, List, length, Ok, Err, refl, sym, ap, ◌∙◌, subst, inl, inr}
use Rattle.std.specs.Prelude.{Result}
use Rattle.macro_grammar.specs.Tree.{Piece}
use Rattle.macro_grammar.specs.Limits.{PiecesFit}
use Rattle.macro_grammar.specs.Readers.{macro_at}
use Rattle.macro_grammar.proofs.WholeMacros.{macro_again, macro_off, macro_longest, one_macro}
use Rattle.macro_parse.specs.declared.texts.MacroParseFault.{MacroParseFault}
use Rattle.macro_parse.specs.declared.texts.MacroParseFault.TheVariants.{MacroSyntax, DiceLimit, Memory}
use Rattle.macro_parse.specs.Faults.{IsMacroText, IsReadFrom, IsFaultOf}
use Rattle.macro_parse.specs.Answers.{are_within, macro_of}
use Rattle.macro_parse.proofs.Limits.{pieces_to, pieces_from, macro_fit, macro_too_much, macro_bad}
use Rattle.grammar_laws.proofs.Whole.{Told, longest_same}
use Rattle.grammar_laws.proofs.MacroTurns.{macro_told}

-- ---- what the grammar says of an answer

abbrev Says : List ℕ → Result (List Piece) MacroParseFault → Type 0
Says s (Ok pieces) = IsReadFrom s pieces
Says s (Err (MacroSyntax at)) = IsFaultOf s (MacroSyntax at)
Says s (Err DiceLimit) = IsFaultOf s DiceLimit
Says s (Err Memory) = ⊥

off_limits : (pieces : List Piece) → are_within pieces ≡ false → PiecesFit pieces → ⊥
off_limits pieces e h = let f : ◌≡◌ {A = Bool} true false = sym (pieces_from pieces h) ∙ e in absurd cc

by_limits : (s : List ℕ) (pieces : List Piece) (v : Bool) → are_within pieces ≡ v → IsMacroText s pieces → Says s (macro_of s)
by_limits s pieces true e h =
    let a = macro_fit s pieces (λ turns lt. macro_again 31 turns s pieces h lt) (pieces_to pieces e) in
    subst (Says s) (sym a) (h, pieces_to pieces e)
by_limits s pieces false e h =
    let a = macro_too_much s pieces (λ turns lt. macro_again 31 turns s pieces h lt) (off_limits pieces e) in
    subst (Says s) (sym a) (pieces, h, off_limits pieces e)

by_told : (s : List ℕ) → Told (macro_at 31) IsMacroText s → Says s (macro_of s)
by_told s (inl (pieces, h, told)) = by_limits s pieces (are_within pieces) refl h
by_told s (inr (r, told)) =
    let a = macro_bad s r (length s - length r) told refl in
    subst (Says s) (sym a) (macro_off 31 s r told, (macro_longest 31 s r told).1)

-- of the answer the grammar says so
macro_says : (s : List ℕ) → Says s (macro_of s)
macro_says s = by_told s (macro_told 31 s)

-- and of one answer at most
same_answer : (s : List ℕ) (a b : Result (List Piece) MacroParseFault) → Says s a → Says s b → a ≡ b
same_answer s (Ok xs) (Ok ys) g h = ap Ok (one_macro 31 s xs ys g.0 h.0)
same_answer s (Ok xs) (Err (MacroSyntax at)) g h = absurd (h.0 xs g.0)
same_answer s (Ok xs) (Err DiceLimit) g (ys, h, off) = absurd (off (subst PiecesFit (one_macro 31 s xs ys g.0 h) g.1))
same_answer s (Err (MacroSyntax at)) (Ok ys) g h = absurd (g.0 ys h.0)
same_answer s (Err (MacroSyntax at)) (Err (MacroSyntax to)) g h = ap (λ n. Err (MacroSyntax n)) (longest_same IsMacroText s at to g.1 h.1)
same_answer s (Err (MacroSyntax at)) (Err DiceLimit) g (ys, h, off) = absurd (g.0 ys h)
same_answer s (Err DiceLimit) (Ok ys) (xs, g, off) h = absurd (off (subst PiecesFit (one_macro 31 s ys xs h.0 g) h.1))
same_answer s (Err DiceLimit) (Err (MacroSyntax at)) (xs, g, off) h = absurd (h.0 xs g)
same_answer s (Err DiceLimit) (Err DiceLimit) g h = refl
same_answer s a (Err Memory) g h = absurd h
same_answer s (Err Memory) b g h = absurd g

pub macro_to : (s : List ℕ) (a : Result (List Piece) MacroParseFault) → macro_of s ≡ a → Says s a
macro_to s a e = subst (Says s) e (macro_says s)

pub macro_from : (s : List ℕ) (a : Result (List Piece) MacroParseFault) → Says s a → macro_of s ≡ a
macro_from s a h = same_answer s (macro_of s) a (macro_says s) h
