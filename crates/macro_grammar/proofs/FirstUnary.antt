-- Statements: an assignment or an expression, told apart behind the first name.
use Rattle.std.proofs.Common.{◌≡◌, ℕ, ◌+◌, ◌<◌, Bool, true, false, List, [], ◌∷◌, ◌++◌, length, Some, refl, sym, ap, subst, ◌∙◌, append_assoc, append-nil, add_assoc, add-zero, arith, inl, inr}
use Rattle.std.specs.Prelude.{nat_eq}
use Rattle.std.proofs.lemmas.List.{length-append}
use Rattle.reading.specs.Reading.{Read}
use Rattle.reading.specs.Placed.{Grammar, bind_at, more_at, Steps, Chain}
use Rattle.reading.proofs.Pairs.{Free}
use Rattle.reading.proofs.Laws.{Reads}
use Rattle.reading.proofs.Placed.{bind_at_is, Inhabited, SomeSteps, reads_more, more_back}
use Rattle.macro_grammar.specs.declared.words.Operator.{Operator}
use Rattle.macro_grammar.specs.declared.words.Operator.TheVariants.{Equal}
use Rattle.macro_grammar.specs.Tree.{Tree, Binary}
use Rattle.macro_grammar.specs.Grammar.{IsProduct, IsSum, IsCompared, IsConjunction, IsExpression, OrOperator, AndOperator, SumOperator, ProductOperator}
use Rattle.macro_grammar.specs.Readers.{is_product, product_operator_at, is_sum, sum_operator_at, is_compare, and_operator_at, or_operator_at, product_at, sum_at, compared_with, compared_at, conjunction_at, expression_from, equal_from}
use Rattle.macro_grammar.proofs.Operators.{reads_product_operator, reads_sum_operator, reads_and_operator, reads_or_operator, product_back, sum_back, and_back, or_back, product_begins, sum_begins, and_begins, or_begins, compare_begins}
use Rattle.macro_grammar.proofs.LevelWords.{reads_product, some_product, reads_sum, AfterSum, reads_compared_with, reads_compared, some_compared, reads_conjunction, some_conjunction, is_inner, is_factor, is_term, is_side, is_conjunct, is_expression, free_left, free_right, product_again, no_comparison, comparison, compared_again, conjunction_again}
use Rattle.macro_grammar.proofs.Calls.{ThenAt, reads_then_at}

-- ---- behind the first unary of an expression

module _ (Unary : Grammar Tree) where
  abbrev pub OrsFrom : ℕ → Tree → List ℕ → Tree → Type 0
  OrsFrom at x = SomeSteps OrOperator (IsConjunction Unary) Binary at x

  abbrev pub AndsFrom : ℕ → Tree → List ℕ → Tree → Type 0
  AndsFrom at x = ThenAt (λ at2. SomeSteps AndOperator (IsCompared Unary) Binary at2 x) OrsFrom at

  abbrev pub SumFrom : ℕ → Tree → List ℕ → Tree → Type 0
  SumFrom at x = ThenAt (λ at2. AfterSum Unary at2 x) AndsFrom at

  abbrev pub ProductFrom : ℕ → Tree → List ℕ → Tree → Type 0
  ProductFrom at x = ThenAt (λ at2. SomeSteps SumOperator (IsProduct Unary) Binary at2 x) SumFrom at

  -- the rest of an expression whose first unary is x
  abbrev pub UnaryFrom : ℕ → Tree → List ℕ → Tree → Type 0
  UnaryFrom at x = ThenAt (λ at2. SomeSteps ProductOperator Unary Binary at2 x) ProductFrom at

  -- the rest of an expression that begins with x and "==" at a place
  abbrev pub EqualFrom : ℕ → ℕ → Tree → List ℕ → Tree → Type 0
  EqualFrom place at x = ThenAt (IsSum Unary) (λ at2 y. AndsFrom at2 (Binary place Equal x y)) at

  ors_end : (at : ℕ) (x : Tree) → (b : List ℕ) × (t : Tree) × OrsFrom at x b t
  ors_end at x = ([], x, ([], (refl, refl)))

  pub ands_end : (at : ℕ) (x : Tree) → (b : List ℕ) × (t : Tree) × AndsFrom at x b t
  ands_end at x = ([], x, ([], [], x, refl, ([], (refl, refl)), ([], (refl, refl))))

  sum_end : (at : ℕ) (x : Tree) → (b : List ℕ) × (t : Tree) × SumFrom at x b t
  sum_end at x = ([], x, ([], [], x, refl, inl (refl, refl), ([], [], x, refl, ([], (refl, refl)), ([], (refl, refl)))))

  product_end : (at : ℕ) (x : Tree) → (b : List ℕ) × (t : Tree) × ProductFrom at x b t
  product_end at x = ([], x, ([], [], x, refl, ([], (refl, refl)), ([], [], x, refl, inl (refl, refl), ([], [], x, refl, ([], (refl, refl)), ([], (refl, refl))))))

  pub unary_end : (at : ℕ) (x : Tree) → UnaryFrom at x [] x
  unary_end at x = ([], [], x, refl, ([], (refl, refl)), ([], [], x, refl, ([], (refl, refl)), ([], [], x, refl, inl (refl, refl), ([], [], x, refl, ([], (refl, refl)), ([], (refl, refl))))))

module _ (unary : ℕ → Read Tree) (Unary : Grammar Tree) (reads_one : (at : ℕ) (s : List ℕ) → Reads (unary at) (Unary at) s) (some_one : Inhabited Unary) (turns : ℕ) where
  reads_ors : (at : ℕ) (x : Tree) (s : List ℕ) → Reads (more_at (nat_eq 124) or_operator_at (conjunction_at unary turns) Binary turns at x) (OrsFrom Unary at x) s
  reads_ors at x s = reads_more (nat_eq 124) or_operator_at (conjunction_at unary turns) OrOperator (IsConjunction Unary) Binary reads_or_operator (reads_conjunction unary Unary reads_one some_one turns) (some_conjunction unary Unary reads_one some_one turns) turns at x s

  reads_ands : (at : ℕ) (x : Tree) (s : List ℕ) → Reads (bind_at at (λ at7. more_at (nat_eq 38) and_operator_at (compared_at unary turns) Binary turns at7 x) (λ at8 w. more_at (nat_eq 124) or_operator_at (conjunction_at unary turns) Binary turns at8 w)) (AndsFrom Unary at x) s
  reads_ands at x s = reads_then_at at (λ at7. more_at (nat_eq 38) and_operator_at (compared_at unary turns) Binary turns at7 x) (λ at8 w. more_at (nat_eq 124) or_operator_at (conjunction_at unary turns) Binary turns at8 w) (λ at2. SomeSteps AndOperator (IsCompared Unary) Binary at2 x) (OrsFrom Unary) s (ors_end Unary)
      (reads_more (nat_eq 38) and_operator_at (compared_at unary turns) AndOperator (IsCompared Unary) Binary reads_and_operator (reads_compared unary Unary reads_one some_one turns) (some_compared unary Unary reads_one some_one turns) turns at x s) reads_ors

  reads_sum_from : (at : ℕ) (x : Tree) (s : List ℕ) → Reads (bind_at at (λ at5. compared_with (sum_at unary turns) turns at5 x) (λ at6 v. bind_at at6 (λ at7. more_at (nat_eq 38) and_operator_at (compared_at unary turns) Binary turns at7 v) (λ at8 w. more_at (nat_eq 124) or_operator_at (conjunction_at unary turns) Binary turns at8 w))) (SumFrom Unary at x) s
  reads_sum_from at x s = reads_then_at at (λ at5. compared_with (sum_at unary turns) turns at5 x) (λ at6 v. bind_at at6 (λ at7. more_at (nat_eq 38) and_operator_at (compared_at unary turns) Binary turns at7 v) (λ at8 w. more_at (nat_eq 124) or_operator_at (conjunction_at unary turns) Binary turns at8 w)) (λ at2. AfterSum Unary at2 x) (AndsFrom Unary) s (ands_end Unary)
      (reads_compared_with unary Unary reads_one some_one turns at x s) reads_ands

  reads_product_from : (at : ℕ) (x : Tree) (s : List ℕ) → Reads (bind_at at (λ at3. more_at is_sum sum_operator_at (product_at unary turns) Binary turns at3 x) (λ at4 z. bind_at at4 (λ at5. compared_with (sum_at unary turns) turns at5 z) (λ at6 v. bind_at at6 (λ at7. more_at (nat_eq 38) and_operator_at (compared_at unary turns) Binary turns at7 v) (λ at8 w. more_at (nat_eq 124) or_operator_at (conjunction_at unary turns) Binary turns at8 w)))) (ProductFrom Unary at x) s
  reads_product_from at x s = reads_then_at at (λ at3. more_at is_sum sum_operator_at (product_at unary turns) Binary turns at3 x) (λ at4 z. bind_at at4 (λ at5. compared_with (sum_at unary turns) turns at5 z) (λ at6 v. bind_at at6 (λ at7. more_at (nat_eq 38) and_operator_at (compared_at unary turns) Binary turns at7 v) (λ at8 w. more_at (nat_eq 124) or_operator_at (conjunction_at unary turns) Binary turns at8 w))) (λ at2. SomeSteps SumOperator (IsProduct Unary) Binary at2 x) (SumFrom Unary) s (sum_end Unary)
      (reads_more is_sum sum_operator_at (product_at unary turns) SumOperator (IsProduct Unary) Binary reads_sum_operator (reads_product unary Unary reads_one some_one turns) (some_product unary Unary reads_one some_one turns) turns at x s) reads_sum_from

  pub reads_expression_from : (at : ℕ) (x : Tree) (s : List ℕ) → Reads (expression_from unary turns at x) (UnaryFrom Unary at x) s
  reads_expression_from at x s = reads_then_at at (λ at1. more_at is_product product_operator_at unary Binary turns at1 x) (λ at2 y. bind_at at2 (λ at3. more_at is_sum sum_operator_at (product_at unary turns) Binary turns at3 y) (λ at4 z. bind_at at4 (λ at5. compared_with (sum_at unary turns) turns at5 z) (λ at6 v. bind_at at6 (λ at7. more_at (nat_eq 38) and_operator_at (compared_at unary turns) Binary turns at7 v) (λ at8 w. more_at (nat_eq 124) or_operator_at (conjunction_at unary turns) Binary turns at8 w)))) (λ at2. SomeSteps ProductOperator Unary Binary at2 x) (ProductFrom Unary) s (product_end Unary)
      (reads_more is_product product_operator_at unary ProductOperator Unary Binary reads_product_operator reads_one some_one turns at x s) reads_product_from

  pub reads_equal_from : (place at : ℕ) (x : Tree) (s : List ℕ) → Reads (equal_from unary turns place at x) (EqualFrom Unary place at x) s
  reads_equal_from place at x s = reads_then_at at (sum_at unary turns) (λ at2 y. bind_at at2 (λ at3. more_at (nat_eq 38) and_operator_at (compared_at unary turns) Binary turns at3 (Binary place Equal x y)) (λ at4 w. more_at (nat_eq 124) or_operator_at (conjunction_at unary turns) Binary turns at4 w)) (IsSum Unary) (λ at2 y. AndsFrom Unary at2 (Binary place Equal x y)) s
      (λ at2 y. ands_end Unary at2 (Binary place Equal x y)) (reads_sum unary Unary reads_one some_one turns at s) (λ at2 y r. reads_ands at2 (Binary place Equal x y) r)

-- ---- an expression is its first unary and the rest

pub place_front : (at : ℕ) (a b : List ℕ) → (at + length a) + length b ≡ at + length (a ++ b)
place_front at a b = add_assoc at (length a) (length b) ∙ ap (λ (n : ℕ). at + n) (sym (length-append a b))

module _ (Unary : Grammar Tree) where
  chain_grows : (Op : Grammar Operator) (Operand : Grammar Tree) (at : ℕ) (a b : List ℕ) (x t : Tree) → Operand at a x → SomeSteps Op Operand Binary (at + length a) x b t → Chain Op Operand Binary at (a ++ b) t
  chain_grows Op Operand at a b x t g h = (a, b, x, h.0, refl, g, h.1)

  compared_grows : (at : ℕ) (a s : List ℕ) (x t : Tree) → IsSum Unary at a x → AfterSum Unary (at + length a) x s t → IsCompared Unary at (a ++ s) t
  compared_grows at a s x t g (inl (e, v)) = inl (rw (e, v, append-nil) g)
  compared_grows at a s x t g (inr (b, c, o, y, e, v, op, h)) = inr (a, b, c, x, o, y, ap (λ (w : List ℕ). a ++ w) e, v, g, op, h)

  ands_join : (at : ℕ) (a s : List ℕ) (x t : Tree) → IsCompared Unary at a x → AndsFrom Unary (at + length a) x s t → IsExpression Unary at (a ++ s) t
  ands_join at a s x t g (b1, s1, w, e1, r, o) =
      let conj = chain_grows AndOperator (IsCompared Unary) at a b1 x w g r in
      let o2 = subst (λ (n : ℕ). OrsFrom Unary n w s1 t) (place_front at a b1) o in
      let whole : a ++ s ≡ (a ++ b1) ++ s1 = ap (λ (z : List ℕ). a ++ z) e1 ∙ sym (append_assoc a b1 s1) in
      rw whole (chain_grows OrOperator (IsConjunction Unary) at (a ++ b1) s1 w t conj o2)

  sum_join : (at : ℕ) (a s : List ℕ) (x t : Tree) → IsSum Unary at a x → SumFrom Unary (at + length a) x s t → IsExpression Unary at (a ++ s) t
  sum_join at a s x t g (b1, s1, v, e1, c, r) =
      let whole : a ++ s ≡ (a ++ b1) ++ s1 = ap (λ (z : List ℕ). a ++ z) e1 ∙ sym (append_assoc a b1 s1) in
      rw whole (ands_join at (a ++ b1) s1 v t (compared_grows at a b1 x v g c) (subst (λ (n : ℕ). AndsFrom Unary n v s1 t) (place_front at a b1) r))

  product_join : (at : ℕ) (a s : List ℕ) (x t : Tree) → IsProduct Unary at a x → ProductFrom Unary (at + length a) x s t → IsExpression Unary at (a ++ s) t
  product_join at a s x t g (b1, s1, v, e1, c, r) =
      let whole : a ++ s ≡ (a ++ b1) ++ s1 = ap (λ (z : List ℕ). a ++ z) e1 ∙ sym (append_assoc a b1 s1) in
      rw whole (sum_join at (a ++ b1) s1 v t (chain_grows SumOperator (IsProduct Unary) at a b1 x v g c) (subst (λ (n : ℕ). SumFrom Unary n v s1 t) (place_front at a b1) r))

  pub unary_join : (at : ℕ) (a s : List ℕ) (x t : Tree) → Unary at a x → UnaryFrom Unary (at + length a) x s t → IsExpression Unary at (a ++ s) t
  unary_join at a s x t g (b1, s1, v, e1, c, r) =
      let whole : a ++ s ≡ (a ++ b1) ++ s1 = ap (λ (z : List ℕ). a ++ z) e1 ∙ sym (append_assoc a b1 s1) in
      rw whole (product_join at (a ++ b1) s1 v t (chain_grows ProductOperator Unary at a b1 x v g c) (subst (λ (n : ℕ). ProductFrom Unary n v s1 t) (place_front at a b1) r))

  -- the places behind two fronts
  back_place : {A : Type 0} (K : ℕ → A) (at : ℕ) (a b s : List ℕ) → s ≡ a ++ b → K (at + length s) ≡ K ((at + length a) + length b)
  back_place K at a b s e = ap K (ap (λ (w : List ℕ). at + length w) e ∙ sym (place_front at a b))

  after_product : (at : ℕ) (s b t1 : List ℕ) (y t : Tree) → IsProduct Unary at s y → ProductFrom Unary (at + length s) y b t → t1 ≡ s ++ b
      → (a : List ℕ) × (c : List ℕ) × (x : Tree) × (t1 ≡ a ++ c) × Unary at a x × UnaryFrom Unary (at + length a) x c t
  after_product at s b t1 y t (a, c, x, steps, e, u, st) rest whole = (
    a,
    c ++ b,
    x,
    whole ∙ (ap (λ (w : List ℕ). w ++ b) e ∙ append_assoc a c b),
    u,
    (c, b, y, refl, (steps, st), subst (λ (n : ℕ). ProductFrom Unary n y b t) (ap (λ (w : List ℕ). at + length w) e ∙ sym (place_front at a c)) rest),
  )

  after_sum : (at : ℕ) (s b t1 : List ℕ) (y t : Tree) → IsSum Unary at s y → SumFrom Unary (at + length s) y b t → t1 ≡ s ++ b
      → (a : List ℕ) × (c : List ℕ) × (x : Tree) × (t1 ≡ a ++ c) × Unary at a x × UnaryFrom Unary (at + length a) x c t
  after_sum at s b t1 y t (a, c, x, steps, e, p, st) rest whole =
      after_product at a (c ++ b) t1 x t p (c, b, y, refl, (steps, st), subst (λ (n : ℕ). SumFrom Unary n y b t) (ap (λ (w : List ℕ). at + length w) e ∙ sym (place_front at a c)) rest)
      (whole ∙ (ap (λ (w : List ℕ). w ++ b) e ∙ append_assoc a c b))

  after_compared : (at : ℕ) (s b t1 : List ℕ) (y t : Tree) → IsCompared Unary at s y → AndsFrom Unary (at + length s) y b t → t1 ≡ s ++ b
      → (a : List ℕ) × (c : List ℕ) × (x : Tree) × (t1 ≡ a ++ c) × Unary at a x × UnaryFrom Unary (at + length a) x c t
  after_compared at s b t1 y t (inl h) rest whole = after_sum at s b t1 y t h ([], b, y, refl, inl (refl, refl), subst (λ (n : ℕ). AndsFrom Unary n y b t) (sym (add-zero (at + length s))) rest) whole
  after_compared at s b t1 y t (inr (a, d, c, x, o, z, e, v, g, op, h)) rest whole =
      after_sum at a ((d ++ c) ++ b) t1 x t g ((d ++ c), b, y, refl, inr (d, c, o, z, refl, v, op, h), subst (λ (n : ℕ). AndsFrom Unary n y b t) (ap (λ (w : List ℕ). at + length w) e ∙ sym (place_front at a (d ++ c))) rest)
      (whole ∙ (ap (λ (w : List ℕ). w ++ b) e ∙ append_assoc a (d ++ c) b))

  after_conjunction : (at : ℕ) (s b t1 : List ℕ) (y t : Tree) → IsConjunction Unary at s y → OrsFrom Unary (at + length s) y b t → t1 ≡ s ++ b
      → (a : List ℕ) × (c : List ℕ) × (x : Tree) × (t1 ≡ a ++ c) × Unary at a x × UnaryFrom Unary (at + length a) x c t
  after_conjunction at s b t1 y t (a, c, x, steps, e, p, st) rest whole =
      after_compared at a (c ++ b) t1 x t p (c, b, y, refl, (steps, st), subst (λ (n : ℕ). OrsFrom Unary n y b t) (ap (λ (w : List ℕ). at + length w) e ∙ sym (place_front at a c)) rest)
      (whole ∙ (ap (λ (w : List ℕ). w ++ b) e ∙ append_assoc a c b))

  -- an expression begins with a unary
  pub first_unary : (at : ℕ) (s : List ℕ) (t : Tree) → IsExpression Unary at s t → (a : List ℕ) × (c : List ℕ) × (x : Tree) × (s ≡ a ++ c) × Unary at a x × UnaryFrom Unary (at + length a) x c t
  first_unary at s t (a, c, x, steps, e, p, st) = after_conjunction at a c s x t p (steps, st) e

-- ---- the rest of an expression is read again

module _ (Op : Grammar Operator) (Operand : Grammar Tree) (inner : ℕ → Bool) (test : ℕ → Bool) (begins : (at : ℕ) (a : List ℕ) (o : Operator) → Op at a o → (c : ℕ) × (w : List ℕ) × (a ≡ c ∷ w) × (test c ≡ true) × (inner c ≡ false)) where
  pub steps_free : (at : ℕ) (x : Tree) (s r : List ℕ) (t : Tree) (steps : List (Operator × Tree)) → Steps Op Operand Binary steps at x s t → Free inner r → Free inner (s ++ r)
  steps_free at x s r t [] h free = rw h.0 free
  steps_free at x s r t (step ∷ steps) (a, b, c, e, g, h, st) free = let k = begins at a step.0 g in rw (e, k.2) k.4

module _ (unary : ℕ → Read Tree) (Unary : Grammar Tree) (turns : ℕ)
    (back_one : (at : ℕ) (b r : List ℕ) (t : Tree) → Unary at b t → Free is_inner r → length b < turns → unary at (b ++ r) ≡ (Some t, r))
    (no_equals : (at : ℕ) (b r : List ℕ) (t : Tree) → Unary at b t → Free (nat_eq 61) (b ++ r)) where
  ors_again : (at : ℕ) (x : Tree) (b r : List ℕ) (t : Tree) → OrsFrom Unary at x b t → Free is_expression r → length b < turns → more_at (nat_eq 124) or_operator_at (conjunction_at unary turns) Binary turns at x (b ++ r) ≡ (Some t, r)
  ors_again at x b r t (steps, st) free lt = more_back (nat_eq 124) is_conjunct or_operator_at (conjunction_at unary turns) OrOperator (IsConjunction Unary) Binary turns or_back (conjunction_again unary Unary turns back_one no_equals) (λ at2 a o. or_begins is_conjunct at2 a o refl) turns at x b r t steps st
      (free_left is_conjunct (nat_eq 124) r free) (free_right is_conjunct (nat_eq 124) r free) lt lt

  ands_free : (at : ℕ) (x : Tree) (b r : List ℕ) (t : Tree) → OrsFrom Unary at x b t → Free is_expression r → Free is_conjunct (b ++ r)
  ands_free at x b r t (steps, st) free = steps_free OrOperator (IsConjunction Unary) is_conjunct (nat_eq 124) (λ at2 a o. or_begins is_conjunct at2 a o refl) at x b r t steps st (free_left is_conjunct (nat_eq 124) r free)

  pub ands_again : (at : ℕ) (x : Tree) (b r : List ℕ) (t : Tree) → AndsFrom Unary at x b t → Free is_expression r → length b < turns
      → bind_at at (λ at7. more_at (nat_eq 38) and_operator_at (compared_at unary turns) Binary turns at7 x) (λ at8 w. more_at (nat_eq 124) or_operator_at (conjunction_at unary turns) Binary turns at8 w) (b ++ r) ≡ (Some t, r)
  ands_again at x b r t (c, d, w, e, (steps, st), o) free lt =
      let len : length b ≡ length c + length d = ap length e ∙ length-append c d in
      let p : b ++ r ≡ c ++ (d ++ r) = ap (λ (z : List ℕ). z ++ r) e ∙ append_assoc c d r in
      let f = ands_free (at + length c) w d r t o free in
      let k = more_back (nat_eq 38) is_side and_operator_at (compared_at unary turns) AndOperator (IsCompared Unary) Binary turns and_back (compared_again unary Unary turns back_one no_equals) (λ at2 a q. and_begins is_side at2 a q refl) turns at x c (d ++ r) w steps st
      (free_left is_side (nat_eq 38) (d ++ r) f) (free_right is_side (nat_eq 38) (d ++ r) f) (omega arith) (omega arith) in
      bind_at_is at (λ at7. more_at (nat_eq 38) and_operator_at (compared_at unary turns) Binary turns at7 x) (λ at8 y. more_at (nat_eq 124) or_operator_at (conjunction_at unary turns) Binary turns at8 y) (b ++ r) c (d ++ r) w (rw p k) p
      ∙ ors_again (at + length c) w d r t o free (omega arith)

  pub sums_free : (at : ℕ) (x : Tree) (b r : List ℕ) (t : Tree) → AndsFrom Unary at x b t → Free is_expression r → Free is_side (b ++ r)
  sums_free at x b r t (c, d, w, e, (steps, st), o) free =
      let p : b ++ r ≡ c ++ (d ++ r) = ap (λ (z : List ℕ). z ++ r) e ∙ append_assoc c d r in
      rw p (steps_free AndOperator (IsCompared Unary) is_side (nat_eq 38) (λ at2 a q. and_begins is_side at2 a q refl) at x c (d ++ r) w steps st (free_left is_side (nat_eq 38) (d ++ r) (ands_free (at + length c) w d r t o free)))

  after_again : (at : ℕ) (x v : Tree) (b r : List ℕ) → AfterSum Unary at x b v → Free is_side r → length b < turns → compared_with (sum_at unary turns) turns at x (b ++ r) ≡ (Some v, r)
  after_again at x v b r (inl (e, f)) free lt = rw (e, f) (no_comparison unary Unary turns back_one no_equals at x r (free_right is_term is_compare r free))
  after_again at x v b r (inr (c, d, o, y, e, f, op, h)) free lt =
      let len : length b ≡ length c + length d = ap length e ∙ length-append c d in
      let p : b ++ r ≡ c ++ (d ++ r) = ap (λ (z : List ℕ). z ++ r) e ∙ append_assoc c d r in
      rw (p, f) (comparison unary Unary turns back_one no_equals at x y o c d r op h (free_left is_term is_compare r free) (omega arith))

  after_free : (at : ℕ) (x v : Tree) (b r : List ℕ) → AfterSum Unary at x b v → Free is_side r → Free is_term (b ++ r)
  after_free at x v b r (inl (e, f)) free = rw e (free_left is_term is_compare r free)
  after_free at x v b r (inr (c, d, o, y, e, f, op, h)) free = let k = compare_begins is_term at c o refl refl refl refl op in rw (e, k.2) k.4

  sum_from_again : (at : ℕ) (x : Tree) (b r : List ℕ) (t : Tree) → SumFrom Unary at x b t → Free is_expression r → length b < turns
      → bind_at at (λ at5. compared_with (sum_at unary turns) turns at5 x) (λ at6 v. bind_at at6 (λ at7. more_at (nat_eq 38) and_operator_at (compared_at unary turns) Binary turns at7 v) (λ at8 w. more_at (nat_eq 124) or_operator_at (conjunction_at unary turns) Binary turns at8 w)) (b ++ r) ≡ (Some t, r)
  sum_from_again at x b r t (c, d, v, e, after, o) free lt =
      let len : length b ≡ length c + length d = ap length e ∙ length-append c d in
      let p : b ++ r ≡ c ++ (d ++ r) = ap (λ (z : List ℕ). z ++ r) e ∙ append_assoc c d r in
      let k = after_again at x v c (d ++ r) after (sums_free (at + length c) v d r t o free) (omega arith) in
      bind_at_is at (λ at5. compared_with (sum_at unary turns) turns at5 x) (λ at6 u. bind_at at6 (λ at7. more_at (nat_eq 38) and_operator_at (compared_at unary turns) Binary turns at7 u) (λ at8 w. more_at (nat_eq 124) or_operator_at (conjunction_at unary turns) Binary turns at8 w)) (b ++ r) c (d ++ r) v (rw p k) p
      ∙ ands_again (at + length c) v d r t o free (omega arith)

  pub products_free : (at : ℕ) (x : Tree) (b r : List ℕ) (t : Tree) → SumFrom Unary at x b t → Free is_expression r → Free is_term (b ++ r)
  products_free at x b r t (c, d, v, e, after, o) free =
      let p : b ++ r ≡ c ++ (d ++ r) = ap (λ (z : List ℕ). z ++ r) e ∙ append_assoc c d r in
      rw p (after_free at x v c (d ++ r) after (sums_free (at + length c) v d r t o free))

  product_from_again : (at : ℕ) (x : Tree) (b r : List ℕ) (t : Tree) → ProductFrom Unary at x b t → Free is_expression r → length b < turns
      → bind_at at (λ at3. more_at is_sum sum_operator_at (product_at unary turns) Binary turns at3 x) (λ at4 z. bind_at at4 (λ at5. compared_with (sum_at unary turns) turns at5 z) (λ at6 v. bind_at at6 (λ at7. more_at (nat_eq 38) and_operator_at (compared_at unary turns) Binary turns at7 v) (λ at8 w. more_at (nat_eq 124) or_operator_at (conjunction_at unary turns) Binary turns at8 w))) (b ++ r) ≡ (Some t, r)
  product_from_again at x b r t (c, d, v, e, (steps, st), o) free lt =
      let len : length b ≡ length c + length d = ap length e ∙ length-append c d in
      let p : b ++ r ≡ c ++ (d ++ r) = ap (λ (z : List ℕ). z ++ r) e ∙ append_assoc c d r in
      let f = products_free (at + length c) v d r t o free in
      let k = more_back is_sum is_factor sum_operator_at (product_at unary turns) SumOperator (IsProduct Unary) Binary turns sum_back (product_again unary Unary turns back_one no_equals) (λ at2 a q. sum_begins is_factor at2 a q refl refl) turns at x c (d ++ r) v steps st
      (free_left is_factor is_sum (d ++ r) f) (free_right is_factor is_sum (d ++ r) f) (omega arith) (omega arith) in
      bind_at_is at (λ at3. more_at is_sum sum_operator_at (product_at unary turns) Binary turns at3 x) (λ at4 z. bind_at at4 (λ at5. compared_with (sum_at unary turns) turns at5 z) (λ at6 u. bind_at at6 (λ at7. more_at (nat_eq 38) and_operator_at (compared_at unary turns) Binary turns at7 u) (λ at8 w. more_at (nat_eq 124) or_operator_at (conjunction_at unary turns) Binary turns at8 w))) (b ++ r) c (d ++ r) v (rw p k) p
      ∙ sum_from_again (at + length c) v d r t o free (omega arith)

  units_free : (at : ℕ) (x : Tree) (b r : List ℕ) (t : Tree) → ProductFrom Unary at x b t → Free is_expression r → Free is_factor (b ++ r)
  units_free at x b r t (c, d, v, e, (steps, st), o) free =
      let p : b ++ r ≡ c ++ (d ++ r) = ap (λ (z : List ℕ). z ++ r) e ∙ append_assoc c d r in
      rw p (steps_free SumOperator (IsProduct Unary) is_factor is_sum (λ at2 a q. sum_begins is_factor at2 a q refl refl) at x c (d ++ r) v steps st (free_left is_factor is_sum (d ++ r) (products_free (at + length c) v d r t o free)))

  pub unary_from_again : (at : ℕ) (x : Tree) (b r : List ℕ) (t : Tree) → UnaryFrom Unary at x b t → Free is_expression r → length b < turns → expression_from unary turns at x (b ++ r) ≡ (Some t, r)
  unary_from_again at x b r t (c, d, v, e, (steps, st), o) free lt =
      let len : length b ≡ length c + length d = ap length e ∙ length-append c d in
      let p : b ++ r ≡ c ++ (d ++ r) = ap (λ (z : List ℕ). z ++ r) e ∙ append_assoc c d r in
      let f = units_free (at + length c) v d r t o free in
      let k = more_back is_product is_inner product_operator_at unary ProductOperator Unary Binary turns product_back back_one (λ at2 a q. product_begins is_inner at2 a q refl refl refl) turns at x c (d ++ r) v steps st
      (free_left is_inner is_product (d ++ r) f) (free_right is_inner is_product (d ++ r) f) (omega arith) (omega arith) in
      bind_at_is at (λ at1. more_at is_product product_operator_at unary Binary turns at1 x) (λ at2 y. bind_at at2 (λ at3. more_at is_sum sum_operator_at (product_at unary turns) Binary turns at3 y) (λ at4 z. bind_at at4 (λ at5. compared_with (sum_at unary turns) turns at5 z) (λ at6 u. bind_at at6 (λ at7. more_at (nat_eq 38) and_operator_at (compared_at unary turns) Binary turns at7 u) (λ at8 w. more_at (nat_eq 124) or_operator_at (conjunction_at unary turns) Binary turns at8 w)))) (b ++ r) c (d ++ r) v (rw p k) p
      ∙ product_from_again (at + length c) v d r t o free (omega arith)

  pub unary_from_free : (at : ℕ) (x : Tree) (b r : List ℕ) (t : Tree) → UnaryFrom Unary at x b t → Free is_expression r → Free is_inner (b ++ r)
  unary_from_free at x b r t (c, d, v, e, (steps, st), o) free =
      let p : b ++ r ≡ c ++ (d ++ r) = ap (λ (z : List ℕ). z ++ r) e ∙ append_assoc c d r in
      rw p (steps_free ProductOperator Unary is_inner is_product (λ at2 a q. product_begins is_inner at2 a q refl refl refl) at x c (d ++ r) v steps st (free_left is_inner is_product (d ++ r) (units_free (at + length c) v d r t o free)))
