-- A macro text has one answer for every number of turns past its length.
use Rattle.std.proofs.Common.{◌≡◌, ℕ, zero, suc, ◌+◌, ◌-◌, ◌<◌, ◌≤◌, Bool, true, false, List, [], ◌∷◌, length, Option, Some, None, refl, sym, ap, ◌∙◌, arith}
use Rattle.std.specs.Prelude.{nat_eq}
use Rattle.reading.specs.Reading.{Read, done, carry, bind, on_head}
use Rattle.reading.specs.Placed.{bind_at}
use Rattle.reading.proofs.Pairs.{same_pair}
use Rattle.macro_grammar.specs.Tree.{Piece, Plain, Roll}
use Rattle.macro_grammar.specs.Grammar.{is_bracket, IsRoll, IsMacro}
use Rattle.macro_grammar.specs.Readers.{roll_at, plain_text, at_end, unless_end, pieces_at, macro_at}
use Rattle.macro_grammar.proofs.StatementsAgain.{head_pass}
use Rattle.macro_grammar.proofs.OptionWords.{reads_roll}
use Rattle.macro_grammar.proofs.WholeMacros.{reads_macro, macro_again}
use Rattle.grammar_laws.proofs.Settled.{takes_reads, from_suc}
use Rattle.grammar_laws.proofs.Whole.{SettlesWhole, Told, told}
use Rattle.grammar_laws.proofs.RollTurns.{roll_settles}

-- ---- plain text leaves no more than there was

carry_rest : (b : ℕ) (o : Option (List ℕ)) (r : List ℕ) → (carry (λ text. done (b ∷ text)) o r).1 ≡ r
carry_rest b None r = refl
carry_rest b (Some text) r = refl

carried : (b : ℕ) (o : Option (List ℕ)) (r s : List ℕ) → length r ≤ length s → length (carry (λ text. done (b ∷ text)) o r).1 ≤ length (b ∷ s)
carried b o r s less = let same = ap length (carry_rest b o r) in omega arith

special_by : (b : ℕ) (s : List ℕ) (v : Bool) → is_bracket b ≡ v → length (plain_text false s).1 ≤ length s → length (plain_text true (b ∷ s)).1 ≤ length (b ∷ s)
special_by b s true e less = rw e (carried b (plain_text false s).0 (plain_text false s).1 s less)
special_by b s false e less = rw e (omega arith)

plain_by : (b : ℕ) (s : List ℕ) (u v w : Bool) → nat_eq 91 b ≡ u → nat_eq 93 b ≡ v → nat_eq 92 b ≡ w → length (plain_text false s).1 ≤ length s → length (plain_text true s).1 ≤ length s
    → length (plain_text false (b ∷ s)).1 ≤ length (b ∷ s)
plain_by b s true v w e f g less behind = rw e (omega arith)
plain_by b s false true w e f g less behind = rw (e, f) (omega arith)
plain_by b s false false true e f g less behind = rw (e, f, g) (omega arith)
plain_by b s false false false e f g less behind = rw (e, f, g) (carried b (plain_text false s).0 (plain_text false s).1 s less)

plain_shrinks : (behind : Bool) (s : List ℕ) → length (plain_text behind s).1 ≤ length s
plain_shrinks false [] = omega arith
plain_shrinks true [] = omega arith
plain_shrinks true (b ∷ s) = special_by b s (is_bracket b) refl (plain_shrinks false s)
plain_shrinks false (b ∷ s) = plain_by b s (nat_eq 91 b) (nat_eq 93 b) (nat_eq 92 b) refl refl refl (plain_shrinks false s) (plain_shrinks true s)

-- ---- pieces

-- a roll has a byte at least
roll_longer : (depth at : ℕ) (s : List ℕ) (p : Piece) → IsRoll (suc depth) at s p → 1 ≤ length s
roll_longer depth at s (Plain q text) h = absurd h
roll_longer depth at s (Roll q o x None) (pl, a, b, e, g, h) = let len = ap length e in omega arith
roll_longer depth at s (Roll q o x (Some y)) (i, pl, a, b, c, e, g, h, k) = let len = ap length e in omega arith

-- the answer from n turns on for the pieces, and m for what stands in them; what is read is all
record EndsWith (m n : ℕ) (read : ℕ → ℕ → Read (List Piece)) (s : List ℕ) : Type 0 where
  outcome : Option (List Piece)
  rest : List ℕ
  is : (room turns : ℕ) → m ≤ room → n ≤ turns → read room turns s ≡ (outcome, rest)
  ends : (ps : List Piece) → outcome ≡ Some ps → rest ≡ []

module _ (depth m : ℕ) where
  roll_shorter : (at : ℕ) (s r : List ℕ) (p : Piece) → roll_at depth m at s ≡ (Some p, r) → length r < length s
  roll_shorter at s r p e =
      let q = takes_reads (roll_at depth m at) (IsRoll (suc depth) at) s (λ f x h. roll_longer depth at f x h) (reads_roll depth m at s) in
      let k = same_pair q.outcome (Some p) q.rest r (sym q.is ∙ e) in
      let fewer = q.takes p k.0 in
      let same = ap length k.1 in
      omega arith

  abbrev Pieces : ℕ → ℕ → List ℕ → Type 0
  Pieces n at = EndsWith m n (λ room turns. pieces_at depth room turns at)

  -- a roll and the pieces behind it, put together by f
  abbrev rolls_at : (Piece → List Piece → List Piece) → ℕ → ℕ → ℕ → Read (List Piece)
  rolls_at f at room turns = bind_at at (roll_at depth room) (λ at2 p. bind (pieces_at depth room turns at2) (λ ps. done (f p ps)))

  behind_roll : (f : Piece → List Piece → List Piece) (n at : ℕ) (s r z : List ℕ) (p : Piece) (o : Option (List Piece)) → ((room : ℕ) → m ≤ room → roll_at depth room at s ≡ (Some p, r))
      → ((room turns : ℕ) → m ≤ room → n ≤ turns → pieces_at depth room turns (at + (length s - length r)) r ≡ (o, z)) → ((ps : List Piece) → o ≡ Some ps → z ≡ []) → EndsWith m n (rolls_at f at) s
  behind_roll f n at s r z p None e is ends = record { outcome = None; rest = z; is = λ room turns enough le. let g = e room enough in let k = is room turns enough le in rw (g, k) refl; ends = λ ps no. absurd cc }
  behind_roll f n at s r z p (Some qs) e is ends = record { outcome = Some (f p qs); rest = z; is = λ room turns enough le. let g = e room enough in let k = is room turns enough le in rw (g, k) refl; ends = λ ps same. ends qs refl }

  by_roll : (f : Piece → List Piece → List Piece) (n at : ℕ) (s r : List ℕ) (p : Option Piece) → ((room : ℕ) → m ≤ room → roll_at depth room at s ≡ (p, r))
      → ((q : Piece) (at2 : ℕ) → p ≡ Some q → Pieces n at2 r) → EndsWith m n (rolls_at f at) s
  by_roll f n at s r None e more = record { outcome = None; rest = r; is = λ room turns enough le. let g = e room enough in rw g refl; ends = λ ps no. absurd cc }
  by_roll f n at s r (Some p) e more = let q = more p (at + (length s - length r)) refl in behind_roll f n at s r q.rest p q.outcome e q.is q.ends

  rolls_end : (f : Piece → List Piece → List Piece) (n at : ℕ) (s : List ℕ) → length s < m → ((at2 : ℕ) (r : List ℕ) → length r < length s → Pieces n at2 r) → EndsWith m n (rolls_at f at) s
  rolls_end f n at s lt more =
      let q = roll_settles m depth at s lt in
      by_roll f n at s q.rest q.outcome q.is (λ p at2 e. more at2 q.rest (roll_shorter at s q.rest p (rw e at (q.is m (omega arith)))))

  -- behind a run of plain text
  abbrev behind_text : ℕ → List ℕ → ℕ → ℕ → ℕ → Read (List Piece)
  behind_text at text at2 room turns = on_head (nat_eq 91) (rolls_at (λ p ps. Plain at text ∷ (p ∷ ps)) at2 room turns) (at_end (Plain at text ∷ []))

  text_by : (n at at2 : ℕ) (text : List ℕ) (b : ℕ) (s : List ℕ) (v : Bool) → nat_eq 91 b ≡ v → EndsWith m n (rolls_at (λ p ps. Plain at text ∷ (p ∷ ps)) at2) (b ∷ s) → EndsWith m n (behind_text at text at2) (b ∷ s)
  text_by n at at2 text b s true e q = record { outcome = q.outcome; rest = q.rest; is = λ room turns enough le. rw e (q.is room turns enough le); ends = q.ends }
  text_by n at at2 text b s false e q = record { outcome = None; rest = b ∷ s; is = λ room turns enough le. rw e refl; ends = λ ps no. absurd cc }

  text_ends : (n at at2 : ℕ) (text s : List ℕ) → length s < m → ((at3 : ℕ) (r : List ℕ) → length r < length s → Pieces n at3 r) → EndsWith m n (behind_text at text at2) s
  text_ends n at at2 text [] lt more = record { outcome = Some (Plain at text ∷ []); rest = []; is = λ room turns enough le. refl; ends = λ ps same. refl }
  text_ends n at at2 text (b ∷ s) lt more = text_by n at at2 text b s (nat_eq 91 b) refl (rolls_end (λ p ps. Plain at text ∷ (p ∷ ps)) n at2 (b ∷ s) lt more)

  -- a run of plain text and what stands behind it
  abbrev run_at : ℕ → ℕ → ℕ → Read (List Piece)
  run_at at room turns = bind_at at (λ _. plain_text false) (λ at2 text. behind_text at text at2 room turns)

  by_text : (n at : ℕ) (s r : List ℕ) (text : Option (List ℕ)) → plain_text false s ≡ (text, r) → ((at2 : ℕ) (run : List ℕ) → EndsWith m n (behind_text at run at2) r) → EndsWith m n (run_at at) s
  by_text n at s r None e more = record { outcome = None; rest = r; is = λ room turns enough le. rw e refl; ends = λ ps no. absurd cc }
  by_text n at s r (Some text) e more = let q = more (at + (length s - length r)) text in record { outcome = q.outcome; rest = q.rest; is = λ room turns enough le. rw e (q.is room turns enough le); ends = q.ends }

  run_ends : (n at : ℕ) (s : List ℕ) → length s < m → ((at2 : ℕ) (r : List ℕ) → length r < length s → Pieces n at2 r) → EndsWith m n (run_at at) s
  run_ends n at s lt more =
      let less = plain_shrinks false s in
      by_text n at s (plain_text false s).1 (plain_text false s).0 refl (λ at2 text. text_ends n at at2 text (plain_text false s).1 (omega arith) (λ at3 r fewer. more at3 r (omega arith)))

  -- one turn
  pieces_by : (n at b : ℕ) (s : List ℕ) (v : Bool) → nat_eq 91 b ≡ v → length (b ∷ s) < m → ((at2 : ℕ) (r : List ℕ) → length r < length (b ∷ s) → Pieces n at2 r) → Pieces (suc n) at (b ∷ s)
  pieces_by n at b s true e lt more =
      let q = rolls_end (λ p ps. p ∷ ps) n at (b ∷ s) lt more in
      record { outcome = q.outcome; rest = q.rest; is = λ room turns enough le. from_suc (λ u. pieces_at depth room u at (b ∷ s) ≡ (q.outcome, q.rest)) n (λ u more. rw e (q.is room u enough more)) turns le; ends = q.ends }
  pieces_by n at b s false e lt more =
      let q = run_ends n at (b ∷ s) lt more in
      record {
        outcome = q.outcome;
        rest = q.rest;
        is = λ room turns enough le. from_suc (λ u. pieces_at depth room u at (b ∷ s) ≡ (q.outcome, q.rest)) n
            (λ u more. head_pass (nat_eq 91) (rolls_at (λ p ps. p ∷ ps) at room u) (unless_end [] (run_at at room u)) (b ∷ s) e ∙ q.is room u enough more) turns le;
        ends = q.ends;
      }

  pieces_end : (n at : ℕ) (s : List ℕ) → length s < n → length s < m → Pieces n at s
  pieces_end zero at s lt small = absurd (omega arith)
  pieces_end (suc n) at [] lt small = record {
    outcome = Some [];
    rest = [];
    is = λ room turns enough le. from_suc (λ u. pieces_at depth room u at [] ≡ (Some [], [])) n (λ u more. refl) turns le;
    ends = λ ps same. refl;
  }
  pieces_end (suc n) at (b ∷ s) lt small = pieces_by n at b s (nat_eq 91 b) refl small (λ at2 r fewer. pieces_end n at2 r (omega arith) (omega arith))

macro_ends : (depth : ℕ) (s : List ℕ) → SettlesWhole (suc (length s)) (macro_at depth) s
unfolding macro_at
macro_ends depth s =
    let q = pieces_end depth (suc (length s)) (suc (length s)) 0 s (omega arith) (omega arith) in
    record { outcome = q.outcome; rest = q.rest; is = λ turns le. q.is turns turns le le; ends = q.ends }

-- a macro text is spelled and read, or isn't read
pub macro_told : (depth : ℕ) (s : List ℕ) → Told (macro_at depth) (IsMacro (suc depth) 0) s
macro_told depth s = told (macro_at depth) (IsMacro (suc depth) 0) (reads_macro depth) (macro_again depth) s (macro_ends depth s)
