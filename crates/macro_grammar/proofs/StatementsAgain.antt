-- Each statement is read again.
use Rattle.std.proofs.Common.{◌≡◌, ℕ, suc, ◌+◌, ◌<◌, Bool, true, false, ◌||◌, List, [], ◌∷◌, ◌++◌, length, Some, refl, sym, ap, subst, ◌∙◌, append_assoc, add-zero, arith, inl, inr, ◌⊎◌}
use Rattle.std.specs.Prelude.{nat_eq}
use Rattle.std.proofs.lemmas.Bool.Decides.{nat_tests}
use Rattle.std.proofs.lemmas.List.{length-append}
use Rattle.reading.specs.Reading.{Read, done, bind, on_head, item}
use Rattle.reading.specs.Number.{IsDigit}
use Rattle.reading.specs.Placed.{Grammar, bind_at, more_at}
use Rattle.reading.proofs.Pairs.{eq_means, Free, or_left, or_right}
use Rattle.reading.proofs.Placed.{bind_at_is, on_head_at}
use Rattle.macro_grammar.specs.declared.words.Operator.{Operator}
use Rattle.macro_grammar.specs.declared.words.Operator.TheVariants.{Equal, NotEqual, LessOrEqual, GreaterOrEqual, Less, Greater}
use Rattle.macro_grammar.specs.Tree.{Tree, Number, Dice, Quoted, Name, Call0, Call1, Call2, Call3, Negated, Inverted, Binary, Assigned}
use Rattle.macro_grammar.specs.Grammar.{AreBlanks, IsLetter, IsName, IsLeaf, IsCall, IsAtom, IsPrefixed, IsUnary, IsSum, IsCompared, IsConjunction, IsExpr, IsAssignment, IsStatement, OrOperator, AndOperator, CompareOperator, SumOperator, ProductOperator, operator_text}
use Rattle.macro_grammar.specs.Readers.{is_blank, blanks_at, is_letter, is_name_byte, is_compare, sum_at, compared_at, conjunction_at, and_operator_at, or_operator_at, expression_at, unary_at, expr_at, word_at, then_blanks, expression_from, equal_from, after_name, after_word, statement_at}
use Rattle.macro_grammar.proofs.Names.{blanks_back, letter_test}
use Rattle.macro_grammar.proofs.Operators.{product_begins, sum_begins, and_begins, or_begins}
use Rattle.macro_grammar.proofs.LevelWords.{sum_again, is_inner, is_term, is_side, is_conjunct, is_expression, free_left, free_right}
use Rattle.macro_grammar.proofs.Calls.{name_again, call_again}
use Rattle.macro_grammar.proofs.Unaries.{unary_again, unary_no_equals, expr_again, start_no_blank, blanks_free, name_start, number_start, WithBlanks, call_start}
use Rattle.macro_grammar.proofs.FirstUnary.{OrsFrom, AndsFrom, SumFrom, ProductFrom, UnaryFrom, EqualFrom, place_front, unary_join, first_unary, unary_from_again, unary_from_free, steps_free, ands_again, sums_free}

pub head_pass : {A : Type 0} (test : ℕ → Bool) (p q : Read A) (s : List ℕ) → Free test s → on_head test p q s ≡ q s
head_pass test p q [] h = refl
head_pass test p q (b ∷ s) h = rw h refl

-- other comparisons begin with another byte
other_begins : (o : Operator) → (o ≡ NotEqual) ⊎ ((o ≡ LessOrEqual) ⊎ ((o ≡ GreaterOrEqual) ⊎ ((o ≡ Less) ⊎ (o ≡ Greater)))) → (c : ℕ) × (w : List ℕ) × (operator_text o ≡ c ∷ w) × (nat_eq 61 c ≡ false)
other_begins o (inl e) = (33, 61 ∷ [], rw e refl, refl)
other_begins o (inr (inl e)) = (60, 61 ∷ [], rw e refl, refl)
other_begins o (inr (inr (inl e))) = (62, 61 ∷ [], rw e refl, refl)
other_begins o (inr (inr (inr (inl e)))) = (60, [], rw e refl, refl)
other_begins o (inr (inr (inr (inr e)))) = (62, [], rw e refl, refl)

module _ (depth : ℕ) where
  expr_no_equals : (at : ℕ) (s r : List ℕ) (t : Tree) → IsExpr (suc depth) at s t → Free (nat_eq 61) (s ++ r)
  expr_no_equals at s r t h =
      let k = first_unary (IsUnary (suc depth)) at s t h in
      let p : s ++ r ≡ k.0 ++ (k.1 ++ r) = ap (λ (w : List ℕ). w ++ r) k.3 ∙ append_assoc k.0 k.1 r in
      rw p (unary_no_equals (suc depth) at k.0 (k.1 ++ r) k.2 k.4)

module _ (depth turns : ℕ) where
  abbrev U : Grammar Tree
  U = IsUnary (suc depth)

  abbrev unary : ℕ → Read Tree
  unary = unary_at turns (suc depth)

  -- ---- the rest of a comparison by "=="

  equal_again : (place at : ℕ) (x : Tree) (b r : List ℕ) (t : Tree) → EqualFrom U place at x b t → Free is_expression r → length b < turns → equal_from unary turns place at x (b ++ r) ≡ (Some t, r)
  equal_again place at x b r t (c, d, y, e, h, ands) free lt =
      let len : length b ≡ length c + length d = ap length e ∙ length-append c d in
      let p : b ++ r ≡ c ++ (d ++ r) = ap (λ (z : List ℕ). z ++ r) e ∙ append_assoc c d r in
      let side = sums_free unary U turns (unary_again turns (suc depth)) (unary_no_equals (suc depth)) (at + length c) (Binary place Equal x y) d r t ands free in
      let k = sum_again unary U turns (unary_again turns (suc depth)) (unary_no_equals (suc depth)) at c (d ++ r) y h (free_left is_term is_compare (d ++ r) side) (omega arith) in
      bind_at_is at (sum_at unary turns) (λ at2 u. bind_at at2 (λ at3. more_at (nat_eq 38) and_operator_at (compared_at unary turns) Binary turns at3 (Binary place Equal x u)) (λ at4 w. more_at (nat_eq 124) or_operator_at (conjunction_at unary turns) Binary turns at4 w)) (b ++ r) c (d ++ r) y (rw p k) p
      ∙ ands_again unary U turns (unary_again turns (suc depth)) (unary_no_equals (suc depth)) (at + length c) (Binary place Equal x y) d r t ands free (omega arith)

  -- ---- where the rest of an expression begins with "=", it is the rest of a comparison

  no_equals_ors : (at : ℕ) (x : Tree) (b r : List ℕ) (t : Tree) → OrsFrom U at x b t → Free (nat_eq 61) r → Free (nat_eq 61) (b ++ r)
  no_equals_ors at x b r t (steps, st) free = steps_free OrOperator (IsConjunction U) (nat_eq 61) (nat_eq 124) (λ at2 a o. or_begins (nat_eq 61) at2 a o refl) at x b r t steps st free

  no_equals_ands : (at : ℕ) (x : Tree) (b r : List ℕ) (t : Tree) → AndsFrom U at x b t → Free (nat_eq 61) r → Free (nat_eq 61) (b ++ r)
  no_equals_ands at x b r t (c, d, w, e, (steps, st), o) free =
      let p : b ++ r ≡ c ++ (d ++ r) = ap (λ (z : List ℕ). z ++ r) e ∙ append_assoc c d r in
      rw p (steps_free AndOperator (IsCompared U) (nat_eq 61) (nat_eq 38) (λ at2 a q. and_begins (nat_eq 61) at2 a q refl) at x c (d ++ r) w steps st (no_equals_ors (at + length c) w d r t o free))

  not_both : (s z : List ℕ) → Free (nat_eq 61) s → s ≡ 61 ∷ z → ⊥
  not_both [] z free e = cc
  not_both (b ∷ s) z free e = let same : b ≡ 61 = cc in let t : nat_eq 61 b ≡ true = rw same refl in cc

  equals_free : (r : List ℕ) → Free is_expression r → Free (nat_eq 61) r
  equals_free [] h = tt
  equals_free (b ∷ r) h =
      let side = or_left (is_side b) (nat_eq 38 b) (or_left (is_conjunct b) (nat_eq 124 b) h) in
      or_left (nat_eq 61 b) _ (or_right (is_term b) (is_compare b) side)

  abbrev Comparison : ℕ → Tree → List ℕ → Tree → Type 0
  Comparison at x b t = (c : List ℕ) × (b ≡ 61 ∷ (61 ∷ c)) × EqualFrom U at ((at + 1) + 1) x c t

  equal_after : (at : ℕ) (x v t : Tree) (b c d r z : List ℕ) (o : Operator) (y : Tree) → b ≡ c ++ d → (b1 : List ℕ) × (c1 : List ℕ) × (c ≡ b1 ++ c1) × (v ≡ Binary at o x y) × CompareOperator at b1 o × IsSum U (at + length b1) c1 y
      → AndsFrom U (at + length c) v d t → b ++ r ≡ 61 ∷ z → Comparison at x b t
  equal_after at x v t b c d r z o y e (b1, c1, e1, vv, (text, inl same), h) ands begins =
      let front : b1 ≡ 61 ∷ (61 ∷ []) = rw same at text in
      let whole : b ≡ 61 ∷ (61 ∷ (c1 ++ d)) = rw (e, e1, front) refl in
      let place : at + length b1 ≡ (at + 1) + 1 = ap (λ (w : List ℕ). at + length w) front ∙ omega arith in
      let spot : at + length c ≡ ((at + 1) + 1) + length c1 = ap (λ (w : List ℕ). at + length w) e1 ∙ (sym (place_front at b1 c1) ∙ ap (λ (n : ℕ). n + length c1) place) in
      let is : v ≡ Binary at Equal x y = rw (vv, same) refl in
      (c1 ++ d, whole, (c1, d, y, refl, rw place at h, subst (λ (n : ℕ). AndsFrom U n (Binary at Equal x y) d t) spot (subst (λ (u : Tree). AndsFrom U (at + length c) u d t) is ands)))
  equal_after at x v t b c d r z o y e (b1, c1, e1, vv, (text, inr other), h) ands begins =
      let k = other_begins o other in
      let p : b ++ r ≡ k.0 ∷ ((k.1 ++ c1) ++ (d ++ r)) = rw (e, e1, text, k.2) (simp append_assoc refl) in
      absurd (not_both (b ++ r) z (rw p k.3) begins)

  from_equal_sum : (at : ℕ) (x : Tree) (b r z : List ℕ) (t : Tree) → SumFrom U at x b t → Free is_expression r → b ++ r ≡ 61 ∷ z → Comparison at x b t
  from_equal_sum at x b r z t (c, d, v, e, inl (nil, same), ands) free begins =
      let p : b ++ r ≡ d ++ r = rw (e, nil) refl in
      absurd (not_both (b ++ r) z (rw p (no_equals_ands (at + length c) v d r t ands (equals_free r free))) begins)
  from_equal_sum at x b r z t (c, d, v, e, inr (b1, c1, o, y, e1, vv, op, h), ands) free begins = equal_after at x v t b c d r z o y e (b1, c1, e1, vv, op, h) ands begins

  product_not : (at : ℕ) (a z : List ℕ) (o : Operator) (rest : List ℕ) → ProductOperator at a o → a ++ rest ≡ 61 ∷ z → ⊥
  product_not at a z o rest op begins = let k = product_begins (nat_eq 61) at a o refl refl refl op in let p : a ++ rest ≡ k.0 ∷ (k.1 ++ rest) = ap (λ (w : List ℕ). w ++ rest) k.2 in not_both (a ++ rest) z (rw p k.4) begins

  sum_not : (at : ℕ) (a z : List ℕ) (o : Operator) (rest : List ℕ) → SumOperator at a o → a ++ rest ≡ 61 ∷ z → ⊥
  sum_not at a z o rest op begins = let k = sum_begins (nat_eq 61) at a o refl refl op in let p : a ++ rest ≡ k.0 ∷ (k.1 ++ rest) = ap (λ (w : List ℕ). w ++ rest) k.2 in not_both (a ++ rest) z (rw p k.4) begins

  from_equal_product : (at : ℕ) (x : Tree) (b r z : List ℕ) (t : Tree) → ProductFrom U at x b t → Free is_expression r → b ++ r ≡ 61 ∷ z → Comparison at x b t
  from_equal_product at x b r z t (c, d, v, e, ([], (nil, same)), rest) free begins =
      let p : b ≡ d = rw (e, nil) refl in
      let place : at + length c ≡ at = ap (λ (w : List ℕ). at + length w) nil ∙ add-zero at in
      rw p (from_equal_sum at x d r z t (subst (λ (n : ℕ). SumFrom U n x d t) place (subst (λ (u : Tree). SumFrom U (at + length c) u d t) same rest)) free (rw p at begins))
  from_equal_product at x b r z t (c, d, v, e, (step ∷ steps, (a1, b1, c1, e1, g, h, st)), rest) free begins =
      let p : b ++ r ≡ a1 ++ ((b1 ++ c1) ++ (d ++ r)) = rw (e, e1) (simp append_assoc refl) in
      absurd (sum_not at a1 z step.0 ((b1 ++ c1) ++ (d ++ r)) g (sym p ∙ begins))

  pub from_equal : (at : ℕ) (x : Tree) (b r z : List ℕ) (t : Tree) → UnaryFrom U at x b t → Free is_expression r → b ++ r ≡ 61 ∷ z → Comparison at x b t
  from_equal at x b r z t (c, d, v, e, ([], (nil, same)), rest) free begins =
      let p : b ≡ d = rw (e, nil) refl in
      let place : at + length c ≡ at = ap (λ (w : List ℕ). at + length w) nil ∙ add-zero at in
      rw p (from_equal_product at x d r z t (subst (λ (n : ℕ). ProductFrom U n x d t) place (subst (λ (u : Tree). ProductFrom U (at + length c) u d t) same rest)) free (rw p at begins))
  from_equal at x b r z t (c, d, v, e, (step ∷ steps, (a1, b1, c1, e1, g, h, st)), rest) free begins =
      let p : b ++ r ≡ a1 ++ ((b1 ++ c1) ++ (d ++ r)) = rw (e, e1) (simp append_assoc refl) in
      absurd (product_not at a1 z step.0 ((b1 ++ c1) ++ (d ++ r)) g (sym p ∙ begins))

  -- ---- behind a word

  from_again : (at : ℕ) (x : Tree) (b r : List ℕ) (t : Tree) → UnaryFrom U at x b t → Free is_expression r → length b < turns → expression_from unary turns at x (b ++ r) ≡ (Some t, r)
  from_again at x b r t h free lt = unary_from_again unary U turns (unary_again turns (suc depth)) (unary_no_equals (suc depth)) at x b r t h free lt

  two_equals : (place : ℕ) (name : List ℕ) (at : ℕ) (z : List ℕ) → after_name unary turns place name at (61 ∷ (61 ∷ z)) ≡ equal_from unary turns at ((at + 1) + 1) (Name place name) z
  two_equals place name at z =
      bind_at_is at (λ _. item (nat_eq 61)) (λ at2 _. on_head (nat_eq 61) (bind_at at2 (λ _. item (nat_eq 61)) (λ at3 _. equal_from unary turns at at3 (Name place name))) (bind (expression_at unary turns at2) (λ x. done (Assigned place name x)))) (61 ∷ (61 ∷ z)) (61 ∷ []) (61 ∷ z) 61 refl refl
      ∙ bind_at_is (at + 1) (λ _. item (nat_eq 61)) (λ at3 _. equal_from unary turns at at3 (Name place name)) (61 ∷ z) (61 ∷ []) z 61 refl refl

  name_by : (place : ℕ) (name : List ℕ) (at : ℕ) (b r : List ℕ) (t : Tree) (c : ℕ) (z : List ℕ) (v : Bool) → nat_eq 61 c ≡ v → b ++ r ≡ c ∷ z → UnaryFrom U at (Name place name) b t → Free is_expression r → length b < turns
      → after_name unary turns place name at (c ∷ z) ≡ (Some t, r)
  name_by place name at b r t c z false e q h free lt = let k = from_again at (Name place name) b r t h free lt in rw e (rw q at k)
  name_by place name at b r t c z true e q h free lt =
      let same : c ≡ 61 = eq_means 61 c e in
      let begins : b ++ r ≡ 61 ∷ z = q ∙ ap (λ (w : ℕ). w ∷ z) same in
      let k = from_equal at (Name place name) b r z t h free begins in
      let whole : c ∷ z ≡ 61 ∷ (61 ∷ (k.0 ++ r)) = sym q ∙ ap (λ (w : List ℕ). w ++ r) k.1 in
      let len : length b ≡ 2 + length k.0 = ap length k.1 ∙ omega arith in
      ap (λ (w : List ℕ). after_name unary turns place name at w) whole ∙ (two_equals place name at (k.0 ++ r) ∙ equal_again at ((at + 1) + 1) (Name place name) k.0 r t k.2 free (omega arith))

  name_head : (place : ℕ) (name : List ℕ) (at : ℕ) (b r : List ℕ) (t : Tree) (q : List ℕ) → b ++ r ≡ q → UnaryFrom U at (Name place name) b t → Free is_expression r → length b < turns → after_name unary turns place name at q ≡ (Some t, r)
  name_head place name at b r t [] e h free lt = let k = from_again at (Name place name) b r t h free lt in rw e at k
  name_head place name at b r t (c ∷ z) e h free lt = name_by place name at b r t c z (nat_eq 61 c) refl e h free lt

  word_from_again : (at : ℕ) (x : Tree) (b r : List ℕ) (t : Tree) → UnaryFrom U at x b t → Free is_expression r → length b < turns → after_word unary turns at x (b ++ r) ≡ (Some t, r)
  word_from_again at (Name p n) b r t h free lt = name_head p n at b r t (b ++ r) refl h free lt
  word_from_again at (Number p n) b r t h free lt = from_again at (Number p n) b r t h free lt
  word_from_again at (Dice p g) b r t h free lt = from_again at (Dice p g) b r t h free lt
  word_from_again at (Quoted p m) b r t h free lt = from_again at (Quoted p m) b r t h free lt
  word_from_again at (Call0 p f) b r t h free lt = from_again at (Call0 p f) b r t h free lt
  word_from_again at (Call1 p f x) b r t h free lt = from_again at (Call1 p f x) b r t h free lt
  word_from_again at (Call2 p f x y) b r t h free lt = from_again at (Call2 p f x y) b r t h free lt
  word_from_again at (Call3 p f x y z) b r t h free lt = from_again at (Call3 p f x y z) b r t h free lt
  word_from_again at (Negated p u) b r t h free lt = from_again at (Negated p u) b r t h free lt
  word_from_again at (Inverted p u) b r t h free lt = from_again at (Inverted p u) b r t h free lt
  word_from_again at (Binary p o x y) b r t h free lt = from_again at (Binary p o x y) b r t h free lt
  word_from_again at (Assigned p n u) b r t h free lt = from_again at (Assigned p n u) b r t h free lt

  -- ---- statements

  abbrev lettered_at : ℕ → Read Tree
  lettered_at at2 = bind_at at2 (λ at3. then_blanks (word_at true (expr_at depth turns) at3)) (after_word unary turns)

  letter_statement : (at : ℕ) (w z : List ℕ) (b : ℕ) (q : List ℕ) → AreBlanks w → z ≡ b ∷ q → IsLetter b → statement_at depth turns at (w ++ z) ≡ lettered_at (at + length w) z
  unfolding statement_at
  letter_statement at w z b q bl e letter =
      let free : Free is_blank z = rw e (start_no_blank b (inr (inl letter))) in
      bind_at_is at (λ _. blanks_at) (λ at2 _. on_head is_letter (lettered_at at2) (expr_at (suc depth) turns at2)) (w ++ z) w z w (blanks_back w z bl free) refl
      ∙ on_head_at is_letter (lettered_at (at + length w)) (expr_at (suc depth) turns (at + length w)) z b q e (letter_test b letter) refl

  other_statement : (at : ℕ) (w z : List ℕ) → AreBlanks w → Free is_blank z → Free is_letter z → statement_at depth turns at (w ++ z) ≡ expr_at (suc depth) turns (at + length w) z
  unfolding statement_at
  other_statement at w z bl free other =
      bind_at_is at (λ _. blanks_at) (λ at2 _. on_head is_letter (lettered_at at2) (expr_at (suc depth) turns at2)) (w ++ z) w z w (blanks_back w z bl free) refl
      ∙ head_pass is_letter (lettered_at (at + length w)) (expr_at (suc depth) turns (at + length w)) z other

  -- a name and blanks, before a byte that makes neither longer
  name_blanks : (at : ℕ) (name v z : List ℕ) → IsName name → AreBlanks v → Free is_inner z → then_blanks (word_at true (expr_at depth turns) at) (name ++ (v ++ z)) ≡ (Some (Name at name), z)
  name_blanks at name v z h bl free =
      let names = free_left is_name_byte (nat_eq 40) z (free_right is_blank (λ b. is_name_byte b || nat_eq 40 b) z free) in
      let bracket = free_right is_name_byte (nat_eq 40) z (free_right is_blank (λ b. is_name_byte b || nat_eq 40 b) z free) in
      let k = name_again true (expr_at depth turns) (IsExpr depth) at name (v ++ z) h (blanks_free is_name_byte v z refl bl names) (blanks_free (nat_eq 40) v z refl bl bracket) in
      let l = blanks_back v z bl (free_left is_blank (λ b. is_name_byte b || nat_eq 40 b) z free) in
      rw (k, l) refl

  call_blanks : (at : ℕ) (a v z : List ℕ) (x : Tree) → IsCall true (IsExpr depth) at a x → AreBlanks v → Free is_inner z → length a < turns → then_blanks (word_at true (expr_at depth turns) at) (a ++ (v ++ z)) ≡ (Some x, z)
  call_blanks at a v z x h bl free lt =
      let k = call_again true (expr_at depth turns) (IsExpr depth) is_expression refl refl turns (λ nn at2 b q t g f l. expr_again depth turns at2 b q t g f l) at a (v ++ z) x h lt in
      let l = blanks_back v z bl (free_left is_blank (λ b. is_name_byte b || nat_eq 40 b) z free) in
      rw (k, l) refl

  assignment_again : (at : ℕ) (s r : List ℕ) (t : Tree) → IsAssignment (suc depth) at s t → Free is_expression r → length s < turns → statement_at depth turns at (s ++ r) ≡ (Some t, r)
  assignment_again at s r t (w, name, v, a, x, e, tt-is, blw, is, blv, h) free lt =
      let n = name_start name is in
      let z = 61 ∷ (a ++ r) in
      let p : s ++ r ≡ w ++ (name ++ (v ++ z)) = rw e (simp append_assoc refl) in
      let head : name ++ (v ++ z) ≡ n.0 ∷ (n.1 ++ (v ++ z)) = ap (λ (y : List ℕ). y ++ (v ++ z)) n.2 in
      let at2 = at + length w in
      let at4 = at2 + length (name ++ v) in
      let split : name ++ (v ++ z) ≡ (name ++ v) ++ z = sym (append_assoc name v z) in
      let k1 = letter_statement at w (name ++ (v ++ z)) n.0 (n.1 ++ (v ++ z)) blw head n.3 in
      let k2 = bind_at_is at2 (λ at3. then_blanks (word_at true (expr_at depth turns) at3)) (after_word unary turns) (name ++ (v ++ z)) (name ++ v) z (Name at2 name) (name_blanks at2 name v z is blv refl) split in
      let k3 = bind_at_is at4 (λ _. item (nat_eq 61)) (λ at5 _. on_head (nat_eq 61) (bind_at at5 (λ _. item (nat_eq 61)) (λ at6 _. equal_from unary turns at4 at6 (Name at2 name))) (bind (expression_at unary turns at5) (λ y. done (Assigned at2 name y)))) z (61 ∷ []) (a ++ r) 61 refl refl in
      let spot : (((at2 + length name) + length v) + 1) ≡ at4 + 1 = ap (λ (m : ℕ). m + 1) (place_front at2 name v) in
      let h2 = subst (λ (m : ℕ). IsExpr (suc depth) m a x) spot h in
      let len : length s ≡ length w + (length name + (length v + suc (length a))) = ap length e ∙ (length-append w (name ++ (v ++ (61 ∷ a))) ∙ ap (λ (m : ℕ). length w + m) (length-append name (v ++ (61 ∷ a)) ∙ ap (λ (m : ℕ). length name + m) (length-append v (61 ∷ a)))) in
      let k4 = head_pass (nat_eq 61) (bind_at (at4 + 1) (λ _. item (nat_eq 61)) (λ at6 _. equal_from unary turns at4 at6 (Name at2 name))) (bind (expression_at unary turns (at4 + 1)) (λ y. done (Assigned at2 name y))) (a ++ r) (expr_no_equals depth (at4 + 1) a r x h2) in
      let k5 = expr_again (suc depth) turns (at4 + 1) a r x h2 free (omega arith) in
      rw (p, tt-is) (k1 ∙ (k2 ∙ (k3 ∙ (k4 ∙ rw k5 refl))))

  -- behind the blanks no letter comes: the rest is read as an expression
  plain_statement : (at : ℕ) (w b c s r : List ℕ) (x t : Tree) → s ≡ (w ++ b) ++ c → AreBlanks w → Free is_blank (b ++ (c ++ r)) → Free is_letter (b ++ (c ++ r))
      → U (at + length w) b x → UnaryFrom U (at + length (w ++ b)) x c t → Free is_expression r → length s < turns → statement_at depth turns at (s ++ r) ≡ (Some t, r)
  plain_statement at w b c s r x t e bl blank letter u from free lt =
      let p : s ++ r ≡ w ++ (b ++ (c ++ r)) = rw e (simp append_assoc refl) in
      let len : length s ≡ (length w + length b) + length c = ap length e ∙ (length-append (w ++ b) c ∙ ap (λ (n : ℕ). n + length c) (length-append w b)) in
      let len2 = length-append b c in
      let whole : IsExpr (suc depth) (at + length w) (b ++ c) t = unary_join U (at + length w) b c x t u (subst (λ (n : ℕ). UnaryFrom U n x c t) (sym (place_front at w b)) from) in
      let k = expr_again (suc depth) turns (at + length w) (b ++ c) r t whole free (omega arith) in
      let k2 : expr_at (suc depth) turns (at + length w) (b ++ (c ++ r)) ≡ (Some t, r) = ap (λ (z : List ℕ). expr_at (suc depth) turns (at + length w) z) (sym (append_assoc b c r)) ∙ k in
      ap (λ (z : List ℕ). statement_at depth turns at z) p ∙ (other_statement at w (b ++ (c ++ r)) bl blank letter ∙ k2)

  -- behind the blanks a word comes, and then the rest of an expression
  word_statement : (at : ℕ) (w a v c s r : List ℕ) (x t : Tree) (b : ℕ) (q : List ℕ) → s ≡ (w ++ (a ++ v)) ++ c → AreBlanks w → a ≡ b ∷ q → IsLetter b
      → then_blanks (word_at true (expr_at depth turns) (at + length w)) (a ++ (v ++ (c ++ r))) ≡ (Some x, c ++ r) → UnaryFrom U (at + length (w ++ (a ++ v))) x c t → Free is_expression r → length s < turns → statement_at depth turns at (s ++ r) ≡ (Some t, r)
  word_statement at w a v c s r x t b q e bl head letter word from free lt =
      let p : s ++ r ≡ w ++ (a ++ (v ++ (c ++ r))) = rw e (simp append_assoc refl) in
      let len : length s ≡ length (w ++ (a ++ v)) + length c = ap length e ∙ length-append (w ++ (a ++ v)) c in
      let first : a ++ (v ++ (c ++ r)) ≡ b ∷ (q ++ (v ++ (c ++ r))) = ap (λ (z : List ℕ). z ++ (v ++ (c ++ r))) head in
      let k1 = letter_statement at w (a ++ (v ++ (c ++ r))) b (q ++ (v ++ (c ++ r))) bl first letter in
      let k2 = bind_at_is (at + length w) (λ at3. then_blanks (word_at true (expr_at depth turns) at3)) (after_word unary turns) (a ++ (v ++ (c ++ r))) (a ++ v) (c ++ r) x word (sym (append_assoc a v (c ++ r))) in
      let k3 = word_from_again ((at + length w) + length (a ++ v)) x c r t (subst (λ (n : ℕ). UnaryFrom U n x c t) (sym (place_front at w (a ++ v))) from) free (omega arith) in
      ap (λ (z : List ℕ). statement_at depth turns at z) p ∙ (k1 ∙ (k2 ∙ k3))

  -- an atom that doesn't begin with a letter
  atom_statement : (at : ℕ) (w a v c s r : List ℕ) (x t : Tree) (b : ℕ) (q : List ℕ) → s ≡ (w ++ (a ++ v)) ++ c → AreBlanks w → AreBlanks v → IsAtom true (IsExpr depth) (at + length w) a x → a ≡ b ∷ q → is_blank b ≡ false → is_letter b ≡ false
      → UnaryFrom U (at + length (w ++ (a ++ v))) x c t → Free is_expression r → length s < turns → statement_at depth turns at (s ++ r) ≡ (Some t, r)
  atom_statement at w a v c s r x t b q e blw blv h head blank letter from free lt =
      let first : (a ++ v) ++ (c ++ r) ≡ b ∷ ((q ++ v) ++ (c ++ r)) = ap (λ (z : List ℕ). (z ++ v) ++ (c ++ r)) head in
      let u : U (at + length w) (a ++ v) x = ([], a ++ v, refl, tt, subst (λ (n : ℕ). IsPrefixed true (IsUnary depth) n (a ++ v) x ⊎ WithBlanks (IsAtom true (IsExpr depth)) n (a ++ v) x) (sym (add-zero (at + length w))) (inr (a, v, refl, blv, h))) in
      plain_statement at w (a ++ v) c s r x t e blw (rw first blank) (rw first letter) u from free lt

  digit_no_letter : (b : ℕ) → IsDigit b → is_letter b ≡ false
  digit_no_letter b h = grind (arith, nat_tests)

  leaf_statement : (at : ℕ) (w a v c s r : List ℕ) (x t : Tree) → s ≡ (w ++ (a ++ v)) ++ c → AreBlanks w → AreBlanks v → IsLeaf (at + length w) a x → UnaryFrom U (at + length (w ++ (a ++ v))) x c t → Free is_expression r → length s < turns
      → statement_at depth turns at (s ++ r) ≡ (Some t, r)
  leaf_statement at w a v c s r (Name p name) t e blw blv (pl, same, is) from free lt =
      let n = name_start name is in
      let k = name_blanks (at + length w) name v (c ++ r) is blv (unary_from_free unary U turns (unary_again turns (suc depth)) (unary_no_equals (suc depth)) (at + length (w ++ (a ++ v))) (Name p name) c r t from free) in
      let word : then_blanks (word_at true (expr_at depth turns) (at + length w)) (a ++ (v ++ (c ++ r))) ≡ (Some (Name p name), c ++ r) = rw (same, pl) k in
      word_statement at w a v c s r (Name p name) t n.0 n.1 e blw (same ∙ n.2) n.3 word from free lt
  leaf_statement at w a v c s r (Number p n) t e blw blv (pl, h) from free lt =
      let k = number_start 17 a n h in
      atom_statement at w a v c s r (Number p n) t k.0 k.1 e blw blv (inl (pl, h)) k.2 (start_no_blank k.0 (inl k.3)) (digit_no_letter k.0 k.3) from free lt
  leaf_statement at w a v c s r (Dice p g) t e blw blv (pl, h) from free lt =
      let k = number_start 8 h.count g.count h.count-is in
      atom_statement at w a v c s r (Dice p g) t k.0 (k.1 ++ (100 ∷ h.die)) e blw blv (inl (pl, h)) (h.parts ∙ ap (λ (z : List ℕ). z ++ (100 ∷ h.die)) k.2) (start_no_blank k.0 (inl k.3)) (digit_no_letter k.0 k.3) from free lt
  leaf_statement at w a v c s r (Quoted p m) t e blw blv (pl, (d, q, h)) from free lt =
      atom_statement at w a v c s r (Quoted p m) t 34 (d ++ (34 ∷ [])) e blw blv (inl (pl, (d, q, h))) q refl refl from free lt
  leaf_statement at w a v c s r (Call0 p f) t e blw blv h from free lt = absurd h
  leaf_statement at w a v c s r (Call1 p f x) t e blw blv h from free lt = absurd h
  leaf_statement at w a v c s r (Call2 p f x y) t e blw blv h from free lt = absurd h
  leaf_statement at w a v c s r (Call3 p f x y z) t e blw blv h from free lt = absurd h
  leaf_statement at w a v c s r (Negated p u) t e blw blv h from free lt = absurd h
  leaf_statement at w a v c s r (Inverted p u) t e blw blv h from free lt = absurd h
  leaf_statement at w a v c s r (Binary p o x y) t e blw blv h from free lt = absurd h
  leaf_statement at w a v c s r (Assigned p n u) t e blw blv h from free lt = absurd h

  first_statement : (at : ℕ) (w b c s r : List ℕ) (x t : Tree) → s ≡ (w ++ b) ++ c → AreBlanks w → IsPrefixed true (IsUnary depth) (at + length w) b x ⊎ WithBlanks (IsAtom true (IsExpr depth)) (at + length w) b x
      → UnaryFrom U (at + length (w ++ b)) x c t → Free is_expression r → length s < turns → statement_at depth turns at (s ++ r) ≡ (Some t, r)
  first_statement at w b c s r x t e bl (inl (nn, a, u, inl (e2, v), h)) from free lt =
      let one : U (at + length w) b x = ([], b, refl, tt, subst (λ (n : ℕ). IsPrefixed true (IsUnary depth) n b x ⊎ WithBlanks (IsAtom true (IsExpr depth)) n b x) (sym (add-zero (at + length w))) (inl (nn, a, u, inl (e2, v), h))) in
      plain_statement at w b c s r x t e bl (rw e2 refl) (rw e2 refl) one from free lt
  first_statement at w b c s r x t e bl (inl (nn, a, u, inr (e2, v), h)) from free lt =
      let one : U (at + length w) b x = ([], b, refl, tt, subst (λ (n : ℕ). IsPrefixed true (IsUnary depth) n b x ⊎ WithBlanks (IsAtom true (IsExpr depth)) n b x) (sym (add-zero (at + length w))) (inl (nn, a, u, inr (e2, v), h))) in
      plain_statement at w b c s r x t e bl (rw e2 refl) (rw e2 refl) one from free lt
  first_statement at w b c s r x t e bl (inr (a, v, e2, blv, inl h)) from free lt =
      leaf_statement at w a v c s r x t (e ∙ ap (λ (z : List ℕ). (w ++ z) ++ c) e2) bl blv h (subst (λ (z : List ℕ). UnaryFrom U (at + length (w ++ z)) x c t) e2 from) free lt
  first_statement at w b c s r x t e bl (inr (a, v, e2, blv, inr (inl h))) from free lt =
      let whole = e ∙ ap (λ (z : List ℕ). (w ++ z) ++ c) e2 in
      let from2 = subst (λ (z : List ℕ). UnaryFrom U (at + length (w ++ z)) x c t) e2 from in
      let len : length s ≡ (length w + (length a + length v)) + length c = ap length whole ∙ (length-append (w ++ (a ++ v)) c ∙ ap (λ (n : ℕ). n + length c) (length-append w (a ++ v) ∙ ap (λ (n : ℕ). length w + n) (length-append a v))) in
      let k = call_start true (IsExpr depth) (at + length w) a x h in
      let word = call_blanks (at + length w) a v (c ++ r) x h blv (unary_from_free unary U turns (unary_again turns (suc depth)) (unary_no_equals (suc depth)) (at + length (w ++ (a ++ v))) x c r t from2 free) (omega arith) in
      word_statement at w a v c s r x t k.0 k.1 whole bl k.2 k.3 word from2 free lt
  first_statement at w b c s r x t e bl (inr (a, v, e2, blv, inr (inr (nn, d, q, h)))) from free lt =
      atom_statement at w a v c s r x t 40 (d ++ (41 ∷ [])) (e ∙ ap (λ (z : List ℕ). (w ++ z) ++ c) e2) bl blv (inr (inr (nn, d, q, h))) q refl refl (subst (λ (z : List ℕ). UnaryFrom U (at + length (w ++ z)) x c t) e2 from) free lt

  pub statement_again : (at : ℕ) (s r : List ℕ) (t : Tree) → IsStatement (suc depth) at s t → Free is_expression r → length s < turns → statement_at depth turns at (s ++ r) ≡ (Some t, r)
  statement_again at s r t (inl h) free lt = assignment_again at s r t h free lt
  statement_again at s r t (inr h) free lt =
      let k = first_unary U at s t h in
      let u = k.4 in
      let e : s ≡ (u.0 ++ u.1) ++ k.1 = k.3 ∙ ap (λ (z : List ℕ). z ++ k.1) u.2 in
      first_statement at u.0 u.1 k.1 s r k.2 t e u.3 u.4 (subst (λ (z : List ℕ). UnaryFrom U (at + length z) k.2 k.1 t) u.2 k.5) free lt
