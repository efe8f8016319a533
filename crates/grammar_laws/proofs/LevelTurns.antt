-- Expressions have one answer for every number of turns past the length of the text, where unaries have.
use Rattle.std.proofs.Common.{◌≡◌, ℕ, ◌≤◌, List, length, arith}
use Rattle.std.specs.Prelude.{nat_eq}
use Rattle.reading.specs.Reading.{Read, done, bind, on_head, item}
use Rattle.reading.specs.Placed.{bind_at, more_at}
use Rattle.macro_grammar.specs.declared.words.Operator.{Operator}
use Rattle.macro_grammar.specs.declared.words.Operator.TheVariants.{Or, And, Equal, NotEqual, LessOrEqual, GreaterOrEqual, Less, Greater, Add, Subtract, Multiply, Divide, Remainder}
use Rattle.macro_grammar.specs.Tree.{Tree, Name, Binary, Assigned}
use Rattle.macro_grammar.specs.Grammar.{operator_text, OrOperator, AndOperator, CompareOperator, SumOperator, ProductOperator}
use Rattle.macro_grammar.specs.Readers.{is_product, product_operator_at, is_sum, sum_operator_at, is_compare, compare_operator_at, and_operator_at, or_operator_at, product_at, sum_at, compared_with, compared_at, conjunction_at, expression_at, expression_from, equal_from, after_name}
use Rattle.macro_grammar.proofs.Operators.{reads_product_operator, reads_sum_operator, reads_and_operator, reads_or_operator, reads_compare_operator}
use Rattle.grammar_laws.proofs.Settled.{Settled, settled_reads, settled_done, settled_item, settled_bind_at, settled_bind, settled_head, Takes, takes_reads, settled_more, settled_chain}

-- an operator has a byte at least
operator_longer : (o : Operator) → 1 ≤ length (operator_text o)
operator_longer Or = omega arith
operator_longer And = omega arith
operator_longer Equal = omega arith
operator_longer NotEqual = omega arith
operator_longer LessOrEqual = omega arith
operator_longer GreaterOrEqual = omega arith
operator_longer Less = omega arith
operator_longer Greater = omega arith
operator_longer Add = omega arith
operator_longer Subtract = omega arith
operator_longer Multiply = omega arith
operator_longer Divide = omega arith
operator_longer Remainder = omega arith

longer : (s : List ℕ) (o : Operator) → s ≡ operator_text o → 1 ≤ length s
longer s o e = rw e (operator_longer o)

product_takes : (at : ℕ) (s : List ℕ) → Takes (product_operator_at at) s
product_takes at s = takes_reads (product_operator_at at) (ProductOperator at) s (λ f o h. longer f o h.0) (reads_product_operator at s)

sum_takes : (at : ℕ) (s : List ℕ) → Takes (sum_operator_at at) s
sum_takes at s = takes_reads (sum_operator_at at) (SumOperator at) s (λ f o h. longer f o h.0) (reads_sum_operator at s)

and_takes : (at : ℕ) (s : List ℕ) → Takes (and_operator_at at) s
and_takes at s = takes_reads (and_operator_at at) (AndOperator at) s (λ f o h. longer f o h.0) (reads_and_operator at s)

or_takes : (at : ℕ) (s : List ℕ) → Takes (or_operator_at at) s
or_takes at s = takes_reads (or_operator_at at) (OrOperator at) s (λ f o h. longer f o h.0) (reads_or_operator at s)

module _ (m : ℕ) (unary : ℕ → ℕ → Read Tree) (one : (at : ℕ) → Settled m (λ turns. unary turns at)) where
  products_settle : (at : ℕ) (x : Tree) → Settled m (λ turns. more_at is_product product_operator_at (unary turns) Binary turns at x)
  products_settle = settled_more is_product product_operator_at unary Binary m product_takes one

  product_settles : (at : ℕ) → Settled m (λ turns. product_at (unary turns) turns at)
  product_settles = settled_chain is_product product_operator_at unary Binary m product_takes one

  sums_settle : (at : ℕ) (x : Tree) → Settled m (λ turns. more_at is_sum sum_operator_at (product_at (unary turns) turns) Binary turns at x)
  sums_settle = settled_more is_sum sum_operator_at (λ turns. product_at (unary turns) turns) Binary m sum_takes product_settles

  sum_settles : (at : ℕ) → Settled m (λ turns. sum_at (unary turns) turns at)
  sum_settles = settled_chain is_sum sum_operator_at (λ turns. product_at (unary turns) turns) Binary m sum_takes product_settles

  compared_settles_with : (at : ℕ) (x : Tree) → Settled m (λ turns. compared_with (sum_at (unary turns) turns) turns at x)
  compared_settles_with at x = settled_head m is_compare (λ turns. bind_at at compare_operator_at (λ at2 o. bind_at at2 (sum_at (unary turns) turns) (λ at3 y. done (Binary at o x y)))) (λ turns. done x)
      (settled_bind_at m at (λ turns. compare_operator_at) (λ turns at2 o. bind_at at2 (sum_at (unary turns) turns) (λ at3 y. done (Binary at o x y)))
      (settled_reads m (compare_operator_at at) (CompareOperator at) (reads_compare_operator at))
      (λ at2 o. settled_bind_at m at2 (λ turns. sum_at (unary turns) turns) (λ turns at3 y. done (Binary at o x y)) (sum_settles at2) (λ at3 y. settled_done m (Binary at o x y))))
      (settled_done m x)

  compared_settles : (at : ℕ) → Settled m (λ turns. compared_at (unary turns) turns at)
  compared_settles at = settled_bind_at m at (λ turns. sum_at (unary turns) turns) (λ turns. compared_with (sum_at (unary turns) turns) turns) (sum_settles at) compared_settles_with

  ands_settle : (at : ℕ) (x : Tree) → Settled m (λ turns. more_at (nat_eq 38) and_operator_at (compared_at (unary turns) turns) Binary turns at x)
  ands_settle = settled_more (nat_eq 38) and_operator_at (λ turns. compared_at (unary turns) turns) Binary m and_takes compared_settles

  conjunction_settles : (at : ℕ) → Settled m (λ turns. conjunction_at (unary turns) turns at)
  conjunction_settles = settled_chain (nat_eq 38) and_operator_at (λ turns. compared_at (unary turns) turns) Binary m and_takes compared_settles

  ors_settle : (at : ℕ) (x : Tree) → Settled m (λ turns. more_at (nat_eq 124) or_operator_at (conjunction_at (unary turns) turns) Binary turns at x)
  ors_settle = settled_more (nat_eq 124) or_operator_at (λ turns. conjunction_at (unary turns) turns) Binary m or_takes conjunction_settles

  pub expression_settles : (at : ℕ) → Settled m (λ turns. expression_at (unary turns) turns at)
  expression_settles = settled_chain (nat_eq 124) or_operator_at (λ turns. conjunction_at (unary turns) turns) Binary m or_takes conjunction_settles

  -- ---- the rest of an expression

  abbrev ors_from : ℕ → ℕ → Tree → Read Tree
  ors_from turns at w = more_at (nat_eq 124) or_operator_at (conjunction_at (unary turns) turns) Binary turns at w

  abbrev ands_from : ℕ → ℕ → Tree → Read Tree
  ands_from turns at v = bind_at at (λ at7. more_at (nat_eq 38) and_operator_at (compared_at (unary turns) turns) Binary turns at7 v) (ors_from turns)

  abbrev compared_from : ℕ → ℕ → Tree → Read Tree
  compared_from turns at z = bind_at at (λ at5. compared_with (sum_at (unary turns) turns) turns at5 z) (ands_from turns)

  abbrev sums_from : ℕ → ℕ → Tree → Read Tree
  sums_from turns at y = bind_at at (λ at3. more_at is_sum sum_operator_at (product_at (unary turns) turns) Binary turns at3 y) (compared_from turns)

  ands_settle_from : (at : ℕ) (v : Tree) → Settled m (λ turns. ands_from turns at v)
  ands_settle_from at v = settled_bind_at m at (λ turns at7. more_at (nat_eq 38) and_operator_at (compared_at (unary turns) turns) Binary turns at7 v) ors_from (ands_settle at v) ors_settle

  compared_settles_from : (at : ℕ) (z : Tree) → Settled m (λ turns. compared_from turns at z)
  compared_settles_from at z = settled_bind_at m at (λ turns at5. compared_with (sum_at (unary turns) turns) turns at5 z) ands_from (compared_settles_with at z) ands_settle_from

  sums_settle_from : (at : ℕ) (y : Tree) → Settled m (λ turns. sums_from turns at y)
  sums_settle_from at y = settled_bind_at m at (λ turns at3. more_at is_sum sum_operator_at (product_at (unary turns) turns) Binary turns at3 y) compared_from (sums_settle at y) compared_settles_from

  pub expression_settles_from : (at : ℕ) (x : Tree) → Settled m (λ turns. expression_from (unary turns) turns at x)
  expression_settles_from at x = settled_bind_at m at (λ turns at1. more_at is_product product_operator_at (unary turns) Binary turns at1 x) sums_from (products_settle at x) sums_settle_from

  equal_settles_from : (place at : ℕ) (x : Tree) → Settled m (λ turns. equal_from (unary turns) turns place at x)
  equal_settles_from place at x = settled_bind_at m at (λ turns. sum_at (unary turns) turns) (λ turns at2 y. ands_from turns at2 (Binary place Equal x y)) (sum_settles at) (λ at2 y. ands_settle_from at2 (Binary place Equal x y))

  abbrev behind_equals : ℕ → List ℕ → ℕ → ℕ → ℕ → Read Tree
  behind_equals place name at turns at2 = on_head (nat_eq 61)
      (bind_at at2 (λ _. item (nat_eq 61)) (λ at3 _. equal_from (unary turns) turns at at3 (Name place name)))
      (bind (expression_at (unary turns) turns at2) (λ x. done (Assigned place name x)))

  behind_equals_settles : (place : ℕ) (name : List ℕ) (at at2 : ℕ) → Settled m (λ turns. behind_equals place name at turns at2)
  behind_equals_settles place name at at2 = settled_head m (nat_eq 61)
      (λ turns. bind_at at2 (λ _. item (nat_eq 61)) (λ at3 _. equal_from (unary turns) turns at at3 (Name place name)))
      (λ turns. bind (expression_at (unary turns) turns at2) (λ x. done (Assigned place name x)))
      (settled_bind_at m at2 (λ turns _. item (nat_eq 61)) (λ turns at3 _. equal_from (unary turns) turns at at3 (Name place name)) (settled_item m (nat_eq 61)) (λ at3 _. equal_settles_from at at3 (Name place name)))
      (settled_bind m (λ turns. expression_at (unary turns) turns at2) (λ turns x. done (Assigned place name x)) (expression_settles at2) (λ x. settled_done m (Assigned place name x)))

  pub name_settles_after : (place : ℕ) (name : List ℕ) (at : ℕ) → Settled m (λ turns. after_name (unary turns) turns place name at)
  name_settles_after place name at = settled_head m (nat_eq 61) (λ turns. bind_at at (λ _. item (nat_eq 61)) (λ at2 _. behind_equals place name at turns at2)) (λ turns. expression_from (unary turns) turns at (Name place name))
      (settled_bind_at m at (λ turns _. item (nat_eq 61)) (λ turns at2 _. behind_equals place name at turns at2) (settled_item m (nat_eq 61)) (λ at2 _. behind_equals_settles place name at at2))
      (expression_settles_from at (Name place name))
