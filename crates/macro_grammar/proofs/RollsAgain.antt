-- Each option and each roll is read again.
use Rattle.std.proofs.Common.{◌≡◌, ℕ, suc, ◌+◌, ◌<◌, true, false, List, [], ◌∷◌, ◌++◌, length, Some, None, refl, ap, ◌∙◌, append_assoc, arith}
use Rattle.std.specs.Prelude.{nat_eq}
use Rattle.std.proofs.lemmas.List.{length-append}
use Rattle.reading.specs.Reading.{Read, done, bind, on_head, item}
use Rattle.reading.specs.Placed.{Grammar, bind_at}
use Rattle.reading.proofs.Pairs.{Free, head_free}
use Rattle.reading.proofs.Placed.{bind_at_is, on_head_at}
use Rattle.macro_grammar.specs.Tree.{Tree, Address, Receivers, Hidden, Master, Runner, Both, Whisper, Branch, If, Count, Options, Addressed, Branched, AddressFirst, BranchFirst, Piece, Plain, Roll, FirstOption, ForWhom, OnWhat}
use Rattle.macro_grammar.specs.Grammar.{IsStatement, IsAddressWord, IsBranchWord, BetweenBlanks, AreOptions, has_if, IsRoll}
use Rattle.macro_grammar.specs.Readers.{is_blank, blanks_at, bracketed_at, letter_at, address_word_at, bytes_at, branch_word_at, between_at, is_branch_letter, first_word_at, second_option, alone, options_at, statement_at, roll_end, roll_at}
use Rattle.macro_grammar.proofs.Names.{blanks_back}
use Rattle.macro_grammar.proofs.Unaries.{blanks_free, and_false}
use Rattle.macro_grammar.proofs.LevelWords.{is_expression}
use Rattle.macro_grammar.proofs.StatementsAgain.{statement_again, head_pass}
use Rattle.macro_grammar.proofs.OptionWords.{item_then_again, bracket_again, bytes_again, FirstWord}

module _ (depth turns : ℕ) where
  address_again : (at : ℕ) (a r : List ℕ) (x : Address) → IsAddressWord (suc depth) at a x → Free (nat_eq 115) r → length a < turns → address_word_at depth turns at (a ++ r) ≡ (Some x, r)
  unfolding address_word_at
  address_again at a r (Receivers p) (pl, e) free lt = rw (pl, e) refl
  address_again at a r (Hidden p) (pl, e) free lt = rw (pl, e) refl
  address_again at a r (Runner p) (pl, e) free lt = rw (pl, e) refl
  address_again at a r (Both p) (pl, e) free lt = rw (pl, e) refl
  address_again at a r (Master p) (pl, e) free lt = rw (pl, e) (head_free (nat_eq 115) (letter_at 115 (Both at)) (Master at) r free)
  address_again at a r (Whisper p x) (pl, b, e, h) free lt =
      let two : (at + 1) + 1 ≡ at + 2 = omega arith in
      let len : length a ≡ suc (suc (length b + 1)) = ap length e ∙ ap (λ (n : ℕ). suc (suc n)) (length-append b (41 ∷ [])) in
      let q : a ++ r ≡ 119 ∷ (40 ∷ (b ++ (41 ∷ r))) = ap (λ (w : List ℕ). w ++ r) e ∙ ap (λ (w : List ℕ). 119 ∷ (40 ∷ w)) (append_assoc b (41 ∷ []) r) in
      let k = bracket_again depth turns (Whisper at) (at + 1) b r x (rw two h) (omega arith) in
      rw (q, pl) (item_then_again 119 (bracketed_at depth turns (Whisper at)) at (40 ∷ (b ++ (41 ∷ r))) ∙ k)

  branch_again : (at : ℕ) (a r : List ℕ) (y : Branch) → IsBranchWord (suc depth) at a y → length a < turns → branch_word_at depth turns at (a ++ r) ≡ (Some y, r)
  unfolding branch_word_at
  branch_again at a r (If p x) (pl, b, e, h) lt =
      let w : List ℕ = 105 ∷ (102 ∷ []) in
      let z = 40 ∷ (b ++ (41 ∷ r)) in
      let three : (at + 2) + 1 ≡ at + 3 = omega arith in
      let len : length a ≡ suc (suc (suc (length b + 1))) = ap length e ∙ ap (λ (n : ℕ). suc (suc (suc n))) (length-append b (41 ∷ [])) in
      let q : a ++ r ≡ w ++ z = ap (λ (v : List ℕ). v ++ r) e ∙ ap (λ (v : List ℕ). 105 ∷ (102 ∷ (40 ∷ v))) (append_assoc b (41 ∷ []) r) in
      let k = bracket_again depth turns (If at) (at + 2) b r x (rw three h) (omega arith) in
      rw (q, pl) (bind_at_is at (λ _. bytes_at w) (λ at2 _. bracketed_at depth turns (If at) at2) (w ++ z) w z [] (bytes_again w z) refl ∙ k)
  branch_again at a r (Count p x) (pl, b, e, h) lt =
      let w : List ℕ = 99 ∷ (111 ∷ (117 ∷ (110 ∷ (116 ∷ [])))) in
      let z = 40 ∷ (b ++ (41 ∷ r)) in
      let six : (at + 5) + 1 ≡ at + 6 = omega arith in
      let len : length a ≡ suc (suc (suc (suc (suc (suc (length b + 1)))))) = ap length e ∙ ap (λ (n : ℕ). suc (suc (suc (suc (suc (suc n)))))) (length-append b (41 ∷ [])) in
      let q : a ++ r ≡ w ++ z = ap (λ (v : List ℕ). v ++ r) e ∙ ap (λ (v : List ℕ). 99 ∷ (111 ∷ (117 ∷ (110 ∷ (116 ∷ (40 ∷ v)))))) (append_assoc b (41 ∷ []) r) in
      let k = bracket_again depth turns (Count at) (at + 5) b r x (rw six h) (omega arith) in
      rw (q, pl) (bind_at_is at (λ _. bytes_at w) (λ at2 _. bracketed_at depth turns (Count at) at2) (w ++ z) w z [] (bytes_again w z) refl ∙ k)

  address_start : (at : ℕ) (a : List ℕ) (x : Address) → IsAddressWord (suc depth) at a x → (b : ℕ) × (w : List ℕ) × (a ≡ b ∷ w) × (is_blank b ≡ false) × (is_branch_letter b ≡ false)
  address_start at a (Receivers p) (pl, e) = (114, [], e, refl, refl)
  address_start at a (Hidden p) (pl, e) = (104, [], e, refl, refl)
  address_start at a (Runner p) (pl, e) = (115, [], e, refl, refl)
  address_start at a (Both p) (pl, e) = (103, 115 ∷ [], e, refl, refl)
  address_start at a (Master p) (pl, e) = (103, [], e, refl, refl)
  address_start at a (Whisper p x) (pl, b, e, h) = (119, 40 ∷ (b ++ (41 ∷ [])), e, refl, refl)

  branch_start : (at : ℕ) (a : List ℕ) (y : Branch) → IsBranchWord (suc depth) at a y → (b : ℕ) × (w : List ℕ) × (a ≡ b ∷ w) × (is_blank b ≡ false) × (is_branch_letter b ≡ true)
  branch_start at a (If p x) (pl, b, e, h) = (105, 102 ∷ (40 ∷ (b ++ (41 ∷ []))), e, refl, refl)
  branch_start at a (Count p x) (pl, b, e, h) = (99, 111 ∷ (117 ∷ (110 ∷ (116 ∷ (40 ∷ (b ++ (41 ∷ [])))))), e, refl, refl)

  between_again : {A : Type 0} (word : ℕ → Read A) (Word : Grammar A) (at : ℕ) (s r : List ℕ) (x : A)
      → ((at2 : ℕ) (a z : List ℕ) (y : A) → Word at2 a y → Free (nat_eq 115) z → length a < turns → word at2 (a ++ z) ≡ (Some y, z))
      → ((at2 : ℕ) (a : List ℕ) (y : A) → Word at2 a y → (b : ℕ) × (w : List ℕ) × (a ≡ b ∷ w) × (is_blank b ≡ false))
      → BetweenBlanks Word at s x → Free is_blank r → Free (nat_eq 115) r → length s < turns → between_at word at (s ++ r) ≡ (Some x, r)
  between_again word Word at s r x again start (w, a, v, e, blw, blv, h) blank letter lt =
      let p : s ++ r ≡ w ++ (a ++ (v ++ r)) = ap (λ (z : List ℕ). z ++ r) e ∙ simp append_assoc refl in
      let len : length s ≡ length w + (length a + length v) = ap length e ∙ (length-append w (a ++ v) ∙ ap (λ (n : ℕ). length w + n) (length-append a v)) in
      let b = start (at + length w) a x h in
      let head : a ++ (v ++ r) ≡ b.0 ∷ (b.1 ++ (v ++ r)) = ap (λ (z : List ℕ). z ++ (v ++ r)) b.2 in
      let k1 = bind_at_is at (λ _. blanks_at) (λ at2 _. bind (word at2) (λ y. bind blanks_at (λ _. done y))) (w ++ (a ++ (v ++ r))) w (a ++ (v ++ r)) w (blanks_back w (a ++ (v ++ r)) blw (rw head b.3)) refl in
      let k2 = again (at + length w) a (v ++ r) x h (blanks_free (nat_eq 115) v r refl blv letter) (omega arith) in
      let k3 = blanks_back v r blv blank in
      rw p (k1 ∙ rw (k2, k3) refl)

  first_word_again : (at : ℕ) (a r : List ℕ) (o : FirstOption) → FirstWord depth at a o → Free (nat_eq 115) r → length a < turns → first_word_at depth turns at (a ++ r) ≡ (Some o, r)
  first_word_again at a r (ForWhom x) h free lt =
      let k = address_start at a x h in
      let p : a ++ r ≡ k.0 ∷ (k.1 ++ r) = ap (λ (z : List ℕ). z ++ r) k.2 in
      let q = address_again at a r x h free lt in
      head_pass is_branch_letter (bind (branch_word_at depth turns at) (λ y. done (OnWhat y))) (bind (address_word_at depth turns at) (λ u. done (ForWhom u))) (a ++ r) (rw p k.4) ∙ rw q refl
  first_word_again at a r (OnWhat y) h free lt =
      let k = branch_start at a y h in
      let p : a ++ r ≡ k.0 ∷ (k.1 ++ r) = ap (λ (z : List ℕ). z ++ r) k.2 in
      let q = branch_again at a r y h lt in
      on_head_at is_branch_letter (bind (branch_word_at depth turns at) (λ u. done (OnWhat u))) (bind (address_word_at depth turns at) (λ u. done (ForWhom u))) (a ++ r) k.0 (k.1 ++ r) p k.4 (rw q refl)

  first_start : (at : ℕ) (a : List ℕ) (o : FirstOption) → FirstWord depth at a o → (b : ℕ) × (w : List ℕ) × (a ≡ b ∷ w) × (is_blank b ≡ false)
  first_start at a (ForWhom x) h = let k = address_start at a x h in (k.0, k.1, k.2, k.3)
  first_start at a (OnWhat y) h = let k = branch_start at a y h in (k.0, k.1, k.2, k.3)

  one_option : (at : ℕ) (s z : List ℕ) (o : FirstOption) → BetweenBlanks (FirstWord depth) at s o → length s < turns → options_at depth turns at (s ++ (58 ∷ z)) ≡ (Some (alone o), 58 ∷ z)
  unfolding options_at
  one_option at s z o h lt =
      bind_at_is at (between_at (first_word_at depth turns)) (λ at2 u. on_head (nat_eq 44) (bind_at at2 (λ _. item (nat_eq 44)) (λ at3 _. second_option depth turns u at3)) (done (alone u))) (s ++ (58 ∷ z)) s (58 ∷ z) o
      (between_again (first_word_at depth turns) (FirstWord depth) at s (58 ∷ z) o first_word_again first_start h refl refl lt) refl

  two_options : (at : ℕ) (a z : List ℕ) (o : FirstOption) → BetweenBlanks (FirstWord depth) at a o → length a < turns → options_at depth turns at (a ++ (44 ∷ z)) ≡ second_option depth turns o ((at + length a) + 1) z
  unfolding options_at
  two_options at a z o h lt =
      bind_at_is at (between_at (first_word_at depth turns)) (λ at2 u. on_head (nat_eq 44) (bind_at at2 (λ _. item (nat_eq 44)) (λ at3 _. second_option depth turns u at3)) (done (alone u))) (a ++ (44 ∷ z)) a (44 ∷ z) o
      (between_again (first_word_at depth turns) (FirstWord depth) at a (44 ∷ z) o first_word_again first_start h refl refl lt) refl
      ∙ item_then_again 44 (second_option depth turns o) (at + length a) z

  options_again : (at : ℕ) (s z : List ℕ) (o : Options) → AreOptions (suc depth) at s o → length s < turns → options_at depth turns at (s ++ (58 ∷ z)) ≡ (Some o, 58 ∷ z)
  options_again at s z (Addressed x) h lt = one_option at s z (ForWhom x) h lt
  options_again at s z (Branched y) h lt = one_option at s z (OnWhat y) h lt
  options_again at s z (AddressFirst x y) (a, b, e, h, g) lt =
      let p : s ++ (58 ∷ z) ≡ a ++ (44 ∷ (b ++ (58 ∷ z))) = ap (λ (w : List ℕ). w ++ (58 ∷ z)) e ∙ append_assoc a (44 ∷ b) (58 ∷ z) in
      let len : length s ≡ length a + suc (length b) = ap length e ∙ length-append a (44 ∷ b) in
      let k = between_again (branch_word_at depth turns) (IsBranchWord (suc depth)) ((at + length a) + 1) b (58 ∷ z) y (λ at2 c w u m f l. branch_again at2 c w u m l) (λ at2 c u m. let q = branch_start at2 c u m in (q.0, q.1, q.2, q.3)) g refl refl (omega arith) in
      rw p (two_options at a (b ++ (58 ∷ z)) (ForWhom x) h (omega arith) ∙ rw k refl)
  options_again at s z (BranchFirst y x) (a, b, e, h, g) lt =
      let p : s ++ (58 ∷ z) ≡ a ++ (44 ∷ (b ++ (58 ∷ z))) = ap (λ (w : List ℕ). w ++ (58 ∷ z)) e ∙ append_assoc a (44 ∷ b) (58 ∷ z) in
      let len : length s ≡ length a + suc (length b) = ap length e ∙ length-append a (44 ∷ b) in
      let k = between_again (address_word_at depth turns) (IsAddressWord (suc depth)) ((at + length a) + 1) b (58 ∷ z) x address_again (λ at2 c u m. let q = address_start at2 c u m in (q.0, q.1, q.2, q.3)) g refl refl (omega arith) in
      rw p (two_options at a (b ++ (58 ∷ z)) (OnWhat y) h (omega arith) ∙ rw k refl)

  -- a roll up to its first statement
  roll_begins : (at : ℕ) (a b z : List ℕ) (o : Options) (x : Tree) → AreOptions (suc depth) (at + 1) a o → IsStatement (suc depth) (((at + 1) + length a) + 1) b x → Free is_expression z → length a < turns → length b < turns
      → roll_at depth turns at (91 ∷ (a ++ (58 ∷ (b ++ z)))) ≡ roll_end depth turns at o ((((at + 1) + length a) + 1) + length b) x z
  unfolding roll_at
  roll_begins at a b z o x g h free la lb =
      item_then_again 91 (λ at2. bind_at at2 (options_at depth turns) (λ at3 u. bind_at at3 (λ _. item (nat_eq 58)) (λ at4 _. bind_at at4 (statement_at depth turns) (roll_end depth turns at u)))) at (a ++ (58 ∷ (b ++ z)))
      ∙ (bind_at_is (at + 1) (options_at depth turns) (λ at3 u. bind_at at3 (λ _. item (nat_eq 58)) (λ at4 _. bind_at at4 (statement_at depth turns) (roll_end depth turns at u))) (a ++ (58 ∷ (b ++ z))) a (58 ∷ (b ++ z)) o (options_again (at + 1) a (b ++ z) o g la) refl
      ∙ (item_then_again 58 (λ at4. bind_at at4 (statement_at depth turns) (roll_end depth turns at o)) ((at + 1) + length a) (b ++ z)
      ∙ bind_at_is (((at + 1) + length a) + 1) (statement_at depth turns) (roll_end depth turns at o) (b ++ z) b z x (statement_again depth turns (((at + 1) + length a) + 1) b z x h free lb) refl))

  pub roll_again : (at : ℕ) (s r : List ℕ) (p : Piece) → IsRoll (suc depth) at s p → length s < turns → roll_at depth turns at (s ++ r) ≡ (Some p, r)
  roll_again at s r (Plain p m) h lt = absurd h
  roll_again at s r (Roll p o x None) (pl, a, b, e, g, h) lt =
      let q : s ++ r ≡ 91 ∷ (a ++ (58 ∷ (b ++ (93 ∷ r)))) = rw e (simp append_assoc refl) in
      let len : length s ≡ suc (length a + suc (length b + 1)) = ap length e ∙ ap suc (length-append a (58 ∷ (b ++ (93 ∷ []))) ∙ ap (λ (n : ℕ). length a + suc n) (length-append b (93 ∷ []))) in
      ap (λ (w : List ℕ). roll_at depth turns at w) q ∙ (roll_begins at a b (93 ∷ r) o x g h refl (omega arith) (omega arith) ∙ rw (and_false (has_if o), pl) refl)
  roll_again at s r (Roll p o x (Some y)) (yes-if, pl, a, b, c, e, g, h, k) lt =
      let q : s ++ r ≡ 91 ∷ (a ++ (58 ∷ (b ++ (59 ∷ (c ++ (93 ∷ r)))))) = rw e (simp append_assoc refl) in
      let len : length s ≡ suc (length a + suc (length b + suc (length c + 1))) = ap length e ∙ ap suc (length-append a (58 ∷ (b ++ (59 ∷ (c ++ (93 ∷ []))))) ∙ ap (λ (n : ℕ). length a + suc n) (length-append b (59 ∷ (c ++ (93 ∷ []))) ∙ ap (λ (n : ℕ). length b + suc n) (length-append c (93 ∷ [])))) in
      let place = (((at + 1) + length a) + 1) + length b in
      let k1 = item_then_again 59 (λ at6. bind_at at6 (statement_at depth turns) (λ at7 u. letter_at 93 (Roll at o x (Some u)))) place (c ++ (93 ∷ r)) in
      let k2 = bind_at_is (place + 1) (statement_at depth turns) (λ at7 u. letter_at 93 (Roll at o x (Some u))) (c ++ (93 ∷ r)) c (93 ∷ r) y (statement_again depth turns (place + 1) c (93 ∷ r) y k refl (omega arith)) refl in
      ap (λ (w : List ℕ). roll_at depth turns at w) q ∙ (roll_begins at a b (59 ∷ (c ++ (93 ∷ r))) o x g h refl (omega arith) (omega arith) ∙ rw (yes-if, pl) (k1 ∙ k2))
