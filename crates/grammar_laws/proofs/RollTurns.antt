-- Statements, options and rolls have one answer for every number of turns past the length of the text.
use Rattle.std.proofs.Common.{ℕ, suc, true, ◌&&◌, List, [], ◌∷◌, Some, None}
use Rattle.std.specs.Prelude.{nat_eq}
use Rattle.reading.specs.Reading.{Read, done, bind, on_head, item}
use Rattle.reading.specs.Placed.{bind_at}
use Rattle.macro_grammar.specs.Tree.{Tree, Number, Dice, Quoted, Name, Call0, Call1, Call2, Call3, Negated, Inverted, Binary, Assigned, Address, Receivers, Hidden, Master, Runner, Both, Whisper, If, Count, Options, AddressFirst, BranchFirst, Piece, Roll, FirstOption, ForWhom, OnWhat}
use Rattle.macro_grammar.specs.Grammar.{has_if}
use Rattle.macro_grammar.specs.Readers.{blanks_at, is_letter, closed, word_at, then_blanks, expression_from, unary_at, expr_at, after_word, statement_at, bracketed_at, letter_at, address_word_at, bytes_at, branch_word_at, between_at, is_branch_letter, first_word_at, second_option, alone, options_at, roll_end, roll_at}
use Rattle.macro_grammar.proofs.OptionWords.{TheBytes, reads_bytes}
use Rattle.grammar_laws.proofs.Settled.{Settled, settled_reads, settled_done, settled_item, settled_bind_at, settled_bind, settled_head}
use Rattle.grammar_laws.proofs.LevelTurns.{expression_settles_from, name_settles_after}
use Rattle.grammar_laws.proofs.WordTurns.{blanks_settle, argument_settles, closed_settles, blanks_settle_behind, word_settles, unary_settles, expr_settles}

letter_settles : {A : Type 0} (m byte : ℕ) (x : A) → Settled m (λ turns. letter_at byte x)
letter_settles m byte x = settled_bind m (λ turns. item (nat_eq byte)) (λ turns _. done x) (settled_item m (nat_eq byte)) (λ _. settled_done m x)

bytes_settle : (m : ℕ) (w : List ℕ) → Settled m (λ turns. bytes_at w)
bytes_settle m w = settled_reads m (bytes_at w) (TheBytes w) (reads_bytes w)

between_settles : {A : Type 0} (m : ℕ) (word : ℕ → ℕ → Read A) → ((at : ℕ) → Settled m (λ turns. word turns at)) → (at : ℕ) → Settled m (λ turns. between_at (word turns) at)
between_settles m word words at = settled_bind_at m at (λ turns _. blanks_at) (λ turns at2 _. bind (word turns at2) (λ x. bind blanks_at (λ _. done x))) (blanks_settle m)
    (λ at2 _. settled_bind m (λ turns. word turns at2) (λ turns x. bind blanks_at (λ _. done x)) (words at2)
    (λ x. settled_bind m (λ turns. blanks_at) (λ turns _. done x) (blanks_settle m) (λ _. settled_done m x)))

-- m is past the length, depth one less than how many may nest
module _ (m depth : ℕ) where
  abbrev deep : ℕ → ℕ → Read Tree
  deep turns = unary_at turns (suc depth)

  rest_settles : (at : ℕ) (t : Tree) → Settled m (λ turns. expression_from (deep turns) turns at t)
  rest_settles = expression_settles_from m deep (unary_settles m (suc depth))

  word_settles_after : (at : ℕ) (t : Tree) → Settled m (λ turns. after_word (deep turns) turns at t)
  word_settles_after at (Name p name) = name_settles_after m deep (unary_settles m (suc depth)) p name at
  word_settles_after at (Number p n) = rest_settles at (Number p n)
  word_settles_after at (Dice p g) = rest_settles at (Dice p g)
  word_settles_after at (Quoted p t) = rest_settles at (Quoted p t)
  word_settles_after at (Call0 p f) = rest_settles at (Call0 p f)
  word_settles_after at (Call1 p f x) = rest_settles at (Call1 p f x)
  word_settles_after at (Call2 p f x y) = rest_settles at (Call2 p f x y)
  word_settles_after at (Call3 p f x y z) = rest_settles at (Call3 p f x y z)
  word_settles_after at (Negated p u) = rest_settles at (Negated p u)
  word_settles_after at (Inverted p u) = rest_settles at (Inverted p u)
  word_settles_after at (Binary p o x y) = rest_settles at (Binary p o x y)
  word_settles_after at (Assigned p name u) = rest_settles at (Assigned p name u)

  abbrev lettered : ℕ → ℕ → Read Tree
  lettered turns at2 = bind_at at2 (λ at3. then_blanks (word_at true (expr_at depth turns) at3)) (after_word (deep turns) turns)

  lettered_settles : (at : ℕ) → Settled m (λ turns. lettered turns at)
  lettered_settles at = settled_bind_at m at (λ turns at3. then_blanks (word_at true (expr_at depth turns) at3)) (λ turns. after_word (deep turns) turns)
      (blanks_settle_behind m (λ turns. word_at true (expr_at depth turns) at) (word_settles m true (λ turns. expr_at depth turns) (expr_settles m depth) at)) word_settles_after

  statement_settles : (at : ℕ) → Settled m (λ turns. statement_at depth turns at)
  unfolding statement_at
  statement_settles at = settled_bind_at m at (λ turns _. blanks_at) (λ turns at2 _. on_head is_letter (lettered turns at2) (expr_at (suc depth) turns at2)) (blanks_settle m)
      (λ at2 _. settled_head m is_letter (λ turns. lettered turns at2) (λ turns. expr_at (suc depth) turns at2) (lettered_settles at2) (expr_settles m (suc depth) at2))

  -- ---- options

  bracket_settles : {A : Type 0} (mk : Tree → A) (at : ℕ) → Settled m (λ turns. bracketed_at depth turns mk at)
  bracket_settles mk at = argument_settles m (λ turns. expr_at (suc depth) turns) 40 at (λ turns at2 x. closed (mk x)) (expr_settles m (suc depth)) (λ at2 x. closed_settles m (mk x))

  abbrev whisper : ℕ → ℕ → Read Address
  whisper at turns = bind_at at (λ _. item (nat_eq 119)) (λ at2 _. bracketed_at depth turns (Whisper at) at2)

  abbrev from_g : ℕ → Read Address
  from_g at = bind (item (nat_eq 103)) (λ _. on_head (nat_eq 115) (letter_at 115 (Both at)) (done (Master at)))

  g_settles : (at : ℕ) → Settled m (λ turns. from_g at)
  g_settles at = settled_bind m (λ turns. item (nat_eq 103)) (λ turns _. on_head (nat_eq 115) (letter_at 115 (Both at)) (done (Master at))) (settled_item m (nat_eq 103))
      (λ _. settled_head m (nat_eq 115) (λ turns. letter_at 115 (Both at)) (λ turns. done (Master at)) (letter_settles m 115 (Both at)) (settled_done m (Master at)))

  whisper_settles : (at : ℕ) → Settled m (whisper at)
  whisper_settles at = settled_bind_at m at (λ turns _. item (nat_eq 119)) (λ turns at2 _. bracketed_at depth turns (Whisper at) at2) (settled_item m (nat_eq 119)) (λ at2 _. bracket_settles (Whisper at) at2)

  address_settles : (at : ℕ) → Settled m (λ turns. address_word_at depth turns at)
  unfolding address_word_at
  address_settles at = settled_head m (nat_eq 114) (λ turns. letter_at 114 (Receivers at)) (λ turns. on_head (nat_eq 104) (letter_at 104 (Hidden at)) (on_head (nat_eq 115) (letter_at 115 (Runner at)) (on_head (nat_eq 103) (from_g at) (whisper at turns))))
      (letter_settles m 114 (Receivers at))
      (settled_head m (nat_eq 104) (λ turns. letter_at 104 (Hidden at)) (λ turns. on_head (nat_eq 115) (letter_at 115 (Runner at)) (on_head (nat_eq 103) (from_g at) (whisper at turns)))
      (letter_settles m 104 (Hidden at))
      (settled_head m (nat_eq 115) (λ turns. letter_at 115 (Runner at)) (λ turns. on_head (nat_eq 103) (from_g at) (whisper at turns))
      (letter_settles m 115 (Runner at))
      (settled_head m (nat_eq 103) (λ turns. from_g at) (whisper at) (g_settles at) (whisper_settles at))))

  worded : {A : Type 0} (w : List ℕ) (mk : Tree → A) (at : ℕ) → Settled m (λ turns. bind_at at (λ _. bytes_at w) (λ at2 _. bracketed_at depth turns mk at2))
  worded w mk at = settled_bind_at m at (λ turns _. bytes_at w) (λ turns at2 _. bracketed_at depth turns mk at2) (bytes_settle m w) (λ at2 _. bracket_settles mk at2)

  branch_settles : (at : ℕ) → Settled m (λ turns. branch_word_at depth turns at)
  unfolding branch_word_at
  branch_settles at = settled_head m (nat_eq 105) (λ turns. bind_at at (λ _. bytes_at (105 ∷ (102 ∷ []))) (λ at2 _. bracketed_at depth turns (If at) at2))
      (λ turns. bind_at at (λ _. bytes_at (99 ∷ (111 ∷ (117 ∷ (110 ∷ (116 ∷ [])))))) (λ at2 _. bracketed_at depth turns (Count at) at2))
      (worded (105 ∷ (102 ∷ [])) (If at) at) (worded (99 ∷ (111 ∷ (117 ∷ (110 ∷ (116 ∷ []))))) (Count at) at)

  first_settles : (at : ℕ) → Settled m (λ turns. first_word_at depth turns at)
  first_settles at = settled_head m is_branch_letter (λ turns. bind (branch_word_at depth turns at) (λ y. done (OnWhat y))) (λ turns. bind (address_word_at depth turns at) (λ x. done (ForWhom x)))
      (settled_bind m (λ turns. branch_word_at depth turns at) (λ turns y. done (OnWhat y)) (branch_settles at) (λ y. settled_done m (OnWhat y)))
      (settled_bind m (λ turns. address_word_at depth turns at) (λ turns x. done (ForWhom x)) (address_settles at) (λ x. settled_done m (ForWhom x)))

  second_settles : (o : FirstOption) (at : ℕ) → Settled m (λ turns. second_option depth turns o at)
  second_settles (ForWhom x) at = settled_bind m (λ turns. between_at (branch_word_at depth turns) at) (λ turns y. done (AddressFirst x y)) (between_settles m (λ turns. branch_word_at depth turns) branch_settles at) (λ y. settled_done m (AddressFirst x y))
  second_settles (OnWhat y) at = settled_bind m (λ turns. between_at (address_word_at depth turns) at) (λ turns x. done (BranchFirst y x)) (between_settles m (λ turns. address_word_at depth turns) address_settles at) (λ x. settled_done m (BranchFirst y x))

  abbrev comma : FirstOption → ℕ → ℕ → Read Options
  comma o at2 turns = bind_at at2 (λ _. item (nat_eq 44)) (λ at3 _. second_option depth turns o at3)

  comma_settles : (o : FirstOption) (at : ℕ) → Settled m (comma o at)
  comma_settles o at = settled_bind_at m at (λ turns _. item (nat_eq 44)) (λ turns at3 _. second_option depth turns o at3) (settled_item m (nat_eq 44)) (λ at3 _. second_settles o at3)

  options_settle : (at : ℕ) → Settled m (λ turns. options_at depth turns at)
  unfolding options_at
  options_settle at = settled_bind_at m at (λ turns. between_at (first_word_at depth turns)) (λ turns at2 o. on_head (nat_eq 44) (comma o at2 turns) (done (alone o))) (between_settles m (λ turns. first_word_at depth turns) first_settles at)
      (λ at2 o. settled_head m (nat_eq 44) (comma o at2) (λ turns. done (alone o)) (comma_settles o at2) (settled_done m (alone o)))

  -- ---- rolls

  abbrev second_body : ℕ → Options → Tree → ℕ → ℕ → Read Piece
  second_body at o x turns at6 = bind_at at6 (statement_at depth turns) (λ at7 y. letter_at 93 (Roll at o x (Some y)))

  second_body_settles : (at : ℕ) (o : Options) (x : Tree) (at6 : ℕ) → Settled m (λ turns. second_body at o x turns at6)
  second_body_settles at o x at6 = settled_bind_at m at6 (λ turns. statement_at depth turns) (λ turns at7 y. letter_at 93 (Roll at o x (Some y))) (statement_settles at6) (λ at7 y. letter_settles m 93 (Roll at o x (Some y)))

  end_settles : (at : ℕ) (o : Options) (at5 : ℕ) (x : Tree) → Settled m (λ turns. roll_end depth turns at o at5 x)
  end_settles at o at5 x = settled_head m (λ b. has_if o && nat_eq 59 b) (λ turns. bind_at at5 (λ _. item (nat_eq 59)) (λ at6 _. second_body at o x turns at6)) (λ turns. letter_at 93 (Roll at o x None))
      (settled_bind_at m at5 (λ turns _. item (nat_eq 59)) (λ turns at6 _. second_body at o x turns at6) (settled_item m (nat_eq 59)) (λ at6 _. second_body_settles at o x at6))
      (letter_settles m 93 (Roll at o x None))

  abbrev body : ℕ → Options → ℕ → ℕ → Read Piece
  body at o turns at4 = bind_at at4 (statement_at depth turns) (roll_end depth turns at o)

  abbrev colon : ℕ → ℕ → ℕ → Options → Read Piece
  colon at turns at3 o = bind_at at3 (λ _. item (nat_eq 58)) (λ at4 _. body at o turns at4)

  body_settles : (at : ℕ) (o : Options) (at4 : ℕ) → Settled m (λ turns. body at o turns at4)
  body_settles at o at4 = settled_bind_at m at4 (λ turns. statement_at depth turns) (λ turns. roll_end depth turns at o) (statement_settles at4) (end_settles at o)

  colon_settles : (at at3 : ℕ) (o : Options) → Settled m (λ turns. colon at turns at3 o)
  colon_settles at at3 o = settled_bind_at m at3 (λ turns _. item (nat_eq 58)) (λ turns at4 _. body at o turns at4) (settled_item m (nat_eq 58)) (λ at4 _. body_settles at o at4)

  pub roll_settles : (at : ℕ) → Settled m (λ turns. roll_at depth turns at)
  unfolding roll_at
  roll_settles at = settled_bind_at m at (λ turns _. item (nat_eq 91)) (λ turns at2 _. bind_at at2 (options_at depth turns) (colon at turns)) (settled_item m (nat_eq 91))
      (λ at2 _. settled_bind_at m at2 (λ turns. options_at depth turns) (λ turns. colon at turns) (options_settle at2) (colon_settles at))
