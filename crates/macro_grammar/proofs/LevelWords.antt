-- The levels of expressions, given what a unary is: each is read as its grammar says, and each word of it is read again.
use Rattle.std.proofs.Common.{◌≡◌, ℕ, ◌+◌, ◌<◌, Bool, ◌||◌, List, [], ◌∷◌, ◌++◌, length, Some, refl, ap, ◌∙◌, append_assoc, append-nil, arith, inl, inr, ◌⊎◌}
use Rattle.std.specs.Prelude.{nat_eq}
use Rattle.std.proofs.lemmas.List.{length-append}
use Rattle.reading.specs.Reading.{Read, done}
use Rattle.reading.specs.Placed.{Grammar, bind_at}
use Rattle.reading.proofs.Pairs.{Free, head_free, or_left, or_right}
use Rattle.reading.proofs.Laws.{Reads, reads_done, reads_head}
use Rattle.reading.proofs.Combine.{IsNothing, Wrapped}
use Rattle.reading.proofs.Placed.{bind_at_is, on_head_at, PlacedSequence, reads_bind_at, Inhabited, reads_chain, some_chain, chain_back}
use Rattle.macro_grammar.specs.declared.words.Operator.{Operator}
use Rattle.macro_grammar.specs.Tree.{Tree, Binary}
use Rattle.macro_grammar.specs.Grammar.{OrOperator, AndOperator, CompareOperator, SumOperator, ProductOperator, IsProduct, IsSum, IsCompared, IsConjunction, IsExpression}
use Rattle.macro_grammar.specs.Readers.{is_blank, is_name_byte, is_product, product_operator_at, is_sum, sum_operator_at, is_compare, compare_operator_at, and_operator_at, or_operator_at, product_at, sum_at, compared_with, compared_at, conjunction_at, expression_at}
use Rattle.macro_grammar.proofs.Operators.{reads_product_operator, reads_sum_operator, reads_and_operator, reads_or_operator, reads_compare_operator, product_back, sum_back, and_back, or_back, compare_back, product_begins, sum_begins, and_begins, or_begins, compare_begins}

-- what a bind puts behind a value, wrapped
pub reads_wrapped_at : {A B : Type 0} (f : A → B) (at : ℕ) (p : ℕ → Read A) (G : Grammar A) (s : List ℕ) → Reads (p at) (G at) s → Reads (bind_at at p (λ at2 x. done (f x))) (Wrapped f (G at)) s
reads_wrapped_at {A} f at p G s r = reads_bind_at at p (λ at2 x. done (f x)) G (λ at2 x. IsNothing (f x)) (λ _. Wrapped f (G at))
    (record { then = λ a b x y g h. (x, (let n = h.0 in rw (n, append-nil) g), h.1); ends = λ a x g. ([], f x, (refl, refl)) })
    s r (λ at2 x q. reads_done (IsNothing (f x)) (f x) q (refl, refl))

-- nothing, or an operator and another sum
abbrev pub AfterSum : Grammar Tree → ℕ → Tree → List ℕ → Tree → Type 0
AfterSum Unary at x s t = IsNothing x s t
    ⊎ ((b : List ℕ) × (c : List ℕ) × (o : Operator) × (y : Tree) × (s ≡ b ++ c) × (t ≡ Binary at o x y) × CompareOperator at b o × IsSum Unary (at + length b) c y)

module _ (unary : ℕ → Read Tree) (Unary : Grammar Tree) (reads_one : (at : ℕ) (s : List ℕ) → Reads (unary at) (Unary at) s) (some_one : Inhabited Unary) (turns : ℕ) where
  pub reads_product : (at : ℕ) (s : List ℕ) → Reads (product_at unary turns at) (IsProduct Unary at) s
  reads_product at s = reads_chain is_product product_operator_at unary ProductOperator Unary Binary reads_product_operator reads_one some_one turns at s

  pub some_product : Inhabited (IsProduct Unary)
  some_product = some_chain is_product product_operator_at unary ProductOperator Unary Binary reads_product_operator reads_one some_one

  pub reads_sum : (at : ℕ) (s : List ℕ) → Reads (sum_at unary turns at) (IsSum Unary at) s
  reads_sum at s = reads_chain is_sum sum_operator_at (product_at unary turns) SumOperator (IsProduct Unary) Binary reads_sum_operator reads_product some_product turns at s

  pub some_sum : Inhabited (IsSum Unary)
  some_sum = some_chain is_sum sum_operator_at (product_at unary turns) SumOperator (IsProduct Unary) Binary reads_sum_operator reads_product some_product

  operand_joins : (at : ℕ) (x : Tree) → PlacedSequence at CompareOperator (λ at2 o. Wrapped (Binary at o x) (IsSum Unary at2)) (λ at2. AfterSum Unary at2 x)
  operand_joins at x = record {
    then = λ b c o t g (y, h, v). inr (b, c, o, y, refl, v, g, h);
    ends = λ b o g. let w = some_sum (at + length b) in (w.0, Binary at o x w.1, (w.1, w.2, refl));
  }

  pub reads_compared_with : (at : ℕ) (x : Tree) (s : List ℕ) → Reads (compared_with (sum_at unary turns) turns at x) (AfterSum Unary at x) s
  reads_compared_with at x s = reads_head is_compare (bind_at at compare_operator_at (λ at2 o. bind_at at2 (sum_at unary turns) (λ at3 y. done (Binary at o x y)))) (done x) (AfterSum Unary at x) s
      (λ b t e. reads_bind_at at compare_operator_at (λ at2 o. bind_at at2 (sum_at unary turns) (λ at3 y. done (Binary at o x y))) CompareOperator (λ at2 o. Wrapped (Binary at o x) (IsSum Unary at2)) (λ at2. AfterSum Unary at2 x) (operand_joins at x) (b ∷ t)
      (reads_compare_operator at (b ∷ t)) (λ at2 o r. reads_wrapped_at (Binary at o x) at2 (sum_at unary turns) (IsSum Unary) r (reads_sum at2 r)))
      (λ t. reads_done (AfterSum Unary at x) x t (inl (refl, refl)))

  compared_then : (at : ℕ) (a s : List ℕ) (x t : Tree) → IsSum Unary at a x → AfterSum Unary (at + length a) x s t → IsCompared Unary at (a ++ s) t
  compared_then at a s x t g (inl (e, v)) = inl (rw (e, v, append-nil) g)
  compared_then at a s x t g (inr (b, c, o, y, e, v, op, h)) = inr (a, b, c, x, o, y, ap (λ (w : List ℕ). a ++ w) e, v, g, op, h)

  compared_joins : (at : ℕ) → PlacedSequence at (IsSum Unary) (AfterSum Unary) (IsCompared Unary)
  compared_joins at = record { then = λ a s x t g h. compared_then at a s x t g h; ends = λ a x g. ([], x, inl (refl, refl)) }

  pub reads_compared : (at : ℕ) (s : List ℕ) → Reads (compared_at unary turns at) (IsCompared Unary at) s
  reads_compared at s = reads_bind_at at (sum_at unary turns) (compared_with (sum_at unary turns) turns) (IsSum Unary) (AfterSum Unary) (IsCompared Unary) (compared_joins at) s
      (reads_sum at s) (λ at2 x r. reads_compared_with at2 x r)

  pub some_compared : Inhabited (IsCompared Unary)
  some_compared at = let w = some_sum at in (w.0, w.1, inl w.2)

  pub reads_conjunction : (at : ℕ) (s : List ℕ) → Reads (conjunction_at unary turns at) (IsConjunction Unary at) s
  reads_conjunction at s = reads_chain (nat_eq 38) and_operator_at (compared_at unary turns) AndOperator (IsCompared Unary) Binary reads_and_operator reads_compared some_compared turns at s

  pub some_conjunction : Inhabited (IsConjunction Unary)
  some_conjunction = some_chain (nat_eq 38) and_operator_at (compared_at unary turns) AndOperator (IsCompared Unary) Binary reads_and_operator reads_compared some_compared

  pub reads_expression : (at : ℕ) (s : List ℕ) → Reads (expression_at unary turns at) (IsExpression Unary at) s
  reads_expression at s = reads_chain (nat_eq 124) or_operator_at (conjunction_at unary turns) OrOperator (IsConjunction Unary) Binary reads_or_operator reads_conjunction some_conjunction turns at s

  pub some_expression : Inhabited (IsExpression Unary)
  some_expression = some_chain (nat_eq 124) or_operator_at (conjunction_at unary turns) OrOperator (IsConjunction Unary) Binary reads_or_operator reads_conjunction some_conjunction

-- ---- what makes a word of each level longer

-- a unary: blanks, bytes of a name, the bracket of a call
abbrev pub is_inner : ℕ → Bool
is_inner b = is_blank b || (is_name_byte b || nat_eq 40 b)

abbrev pub is_factor : ℕ → Bool
is_factor b = is_inner b || is_product b

abbrev pub is_term : ℕ → Bool
is_term b = is_factor b || is_sum b

abbrev pub is_side : ℕ → Bool
is_side b = is_term b || is_compare b

abbrev pub is_conjunct : ℕ → Bool
is_conjunct b = is_side b || nat_eq 38 b

abbrev pub is_expression : ℕ → Bool
is_expression b = is_conjunct b || nat_eq 124 b

pub free_left : (f g : ℕ → Bool) (r : List ℕ) → Free (λ b. f b || g b) r → Free f r
free_left f g [] h = tt
free_left f g (b ∷ r) h = or_left (f b) (g b) h

pub free_right : (f g : ℕ → Bool) (r : List ℕ) → Free (λ b. f b || g b) r → Free g r
free_right f g [] h = tt
free_right f g (b ∷ r) h = or_right (f b) (g b) h

-- ---- read again

module _ (unary : ℕ → Read Tree) (Unary : Grammar Tree) (turns : ℕ)
    (back_one : (at : ℕ) (b r : List ℕ) (t : Tree) → Unary at b t → Free is_inner r → length b < turns → unary at (b ++ r) ≡ (Some t, r))
    (no_equals : (at : ℕ) (b r : List ℕ) (t : Tree) → Unary at b t → Free (nat_eq 61) (b ++ r)) where
  pub product_again : (at : ℕ) (s r : List ℕ) (t : Tree) → IsProduct Unary at s t → Free is_factor r → length s < turns → product_at unary turns at (s ++ r) ≡ (Some t, r)
  product_again at s r t h free lt =
      chain_back is_product is_inner product_operator_at unary ProductOperator Unary Binary turns product_back back_one (λ at2 a o. product_begins is_inner at2 a o refl refl refl) turns at s r t h
      (free_left is_inner is_product r free) (free_right is_inner is_product r free) lt lt

  pub sum_again : (at : ℕ) (s r : List ℕ) (t : Tree) → IsSum Unary at s t → Free is_term r → length s < turns → sum_at unary turns at (s ++ r) ≡ (Some t, r)
  sum_again at s r t h free lt =
      chain_back is_sum is_factor sum_operator_at (product_at unary turns) SumOperator (IsProduct Unary) Binary turns sum_back product_again (λ at2 a o. sum_begins is_factor at2 a o refl refl) turns at s r t h
      (free_left is_factor is_sum r free) (free_right is_factor is_sum r free) lt lt

  product_no_equals : (at : ℕ) (s r : List ℕ) (t : Tree) → IsProduct Unary at s t → Free (nat_eq 61) (s ++ r)
  product_no_equals at s r t (a, b, x, steps, e, g, st) = let k = no_equals at a (b ++ r) x g in let p : s ++ r ≡ a ++ (b ++ r) = ap (λ (w : List ℕ). w ++ r) e ∙ append_assoc a b r in rw p k

  pub sum_no_equals : (at : ℕ) (s r : List ℕ) (t : Tree) → IsSum Unary at s t → Free (nat_eq 61) (s ++ r)
  sum_no_equals at s r t (a, b, x, steps, e, g, st) = let k = product_no_equals at a (b ++ r) x g in let p : s ++ r ≡ a ++ (b ++ r) = ap (λ (w : List ℕ). w ++ r) e ∙ append_assoc a b r in rw p k

  -- behind a sum: nothing, where no comparison comes
  pub no_comparison : (at : ℕ) (x : Tree) (r : List ℕ) → Free is_compare r → compared_with (sum_at unary turns) turns at x r ≡ (Some x, r)
  no_comparison at x r free = head_free is_compare (bind_at at compare_operator_at (λ at2 o. bind_at at2 (sum_at unary turns) (λ at3 y. done (Binary at o x y)))) x r free

  -- behind a sum: a comparison and another sum
  pub comparison : (at : ℕ) (x y : Tree) (o : Operator) (b c r : List ℕ) → CompareOperator at b o → IsSum Unary (at + length b) c y → Free is_term r → length c < turns
      → compared_with (sum_at unary turns) turns at x (b ++ (c ++ r)) ≡ (Some (Binary at o x y), r)
  comparison at x y o b c r op h free lt =
      let k = compare_begins is_term at b o refl refl refl refl op in
      let p : b ++ (c ++ r) ≡ k.0 ∷ (k.1 ++ (c ++ r)) = ap (λ (w : List ℕ). w ++ (c ++ r)) k.2 in
      let q1 = bind_at_is at compare_operator_at (λ at2 o2. bind_at at2 (sum_at unary turns) (λ at3 y2. done (Binary at o2 x y2))) (b ++ (c ++ r)) b (c ++ r) o (compare_back at b (c ++ r) o op (sum_no_equals (at + length b) c r y h)) refl in
      let q2 = bind_at_is (at + length b) (sum_at unary turns) (λ at3 y2. done (Binary at o x y2)) (c ++ r) c r y (sum_again (at + length b) c r y h free lt) refl in
      on_head_at is_compare (bind_at at compare_operator_at (λ at2 o2. bind_at at2 (sum_at unary turns) (λ at3 y2. done (Binary at o2 x y2)))) (done x) (b ++ (c ++ r)) k.0 (k.1 ++ (c ++ r)) p k.3 (q1 ∙ q2)

  compare_free : (at : ℕ) (b r : List ℕ) (o : Operator) → CompareOperator at b o → Free is_term (b ++ r)
  compare_free at b r o op = let k = compare_begins is_term at b o refl refl refl refl op in let e = k.2 in rw e k.4

  pub compared_again : (at : ℕ) (s r : List ℕ) (t : Tree) → IsCompared Unary at s t → Free is_side r → length s < turns → compared_at unary turns at (s ++ r) ≡ (Some t, r)
  compared_again at s r t (inl h) free lt =
      bind_at_is at (sum_at unary turns) (compared_with (sum_at unary turns) turns) (s ++ r) s r t (sum_again at s r t h (free_left is_term is_compare r free) lt) refl
      ∙ no_comparison (at + length s) t r (free_right is_term is_compare r free)
  compared_again at s r t (inr (a, b, c, x, o, y, e, v, g, op, h)) free lt =
      let len : length s ≡ length a + (length b + length c) = ap length e ∙ (length-append a (b ++ c) ∙ ap (λ (n : ℕ). length a + n) (length-append b c)) in
      let p : s ++ r ≡ a ++ (b ++ (c ++ r)) = ap (λ (w : List ℕ). w ++ r) e ∙ (append_assoc a (b ++ c) r ∙ ap (λ (w : List ℕ). a ++ w) (append_assoc b c r)) in
      let k = sum_again at a (b ++ (c ++ r)) x g (compare_free (at + length a) b (c ++ r) o op) (omega arith) in
      rw v (bind_at_is at (sum_at unary turns) (compared_with (sum_at unary turns) turns) (s ++ r) a (b ++ (c ++ r)) x (rw p k) p
      ∙ comparison (at + length a) x y o b c r op h (free_left is_term is_compare r free) (omega arith))

  pub conjunction_again : (at : ℕ) (s r : List ℕ) (t : Tree) → IsConjunction Unary at s t → Free is_conjunct r → length s < turns → conjunction_at unary turns at (s ++ r) ≡ (Some t, r)
  conjunction_again at s r t h free lt =
      chain_back (nat_eq 38) is_side and_operator_at (compared_at unary turns) AndOperator (IsCompared Unary) Binary turns and_back compared_again (λ at2 a o. and_begins is_side at2 a o refl) turns at s r t h
      (free_left is_side (nat_eq 38) r free) (free_right is_side (nat_eq 38) r free) lt lt

  pub expression_again : (at : ℕ) (s r : List ℕ) (t : Tree) → IsExpression Unary at s t → Free is_expression r → length s < turns → expression_at unary turns at (s ++ r) ≡ (Some t, r)
  expression_again at s r t h free lt =
      chain_back (nat_eq 124) is_conjunct or_operator_at (conjunction_at unary turns) OrOperator (IsConjunction Unary) Binary turns or_back conjunction_again (λ at2 a o. or_begins is_conjunct at2 a o refl) turns at s r t h
      (free_left is_conjunct (nat_eq 124) r free) (free_right is_conjunct (nat_eq 124) r free) lt lt
