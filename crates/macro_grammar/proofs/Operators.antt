-- Operators, as they are read against the grammar's.
use Rattle.std.proofs.Common.{◌≡◌, ℕ, Bool, true, false, ◌||◌, cond, List, [], ◌∷◌, ◌++◌, Some, refl, sym, ap, ◌∙◌, inl, inr}
use Rattle.std.specs.Prelude.{nat_eq}
use Rattle.reading.specs.Reading.{Read, done, bind, on_head, item}
use Rattle.reading.proofs.Pairs.{eq_means, Free}
use Rattle.reading.proofs.Laws.{Reads, Sequence, reads_done, reads_bind, reads_as, reads_item, reads_head, IsItem, SomeItem}
use Rattle.reading.proofs.Combine.{only, Wrapped, reads_wrapped, Then, reads_then}
use Rattle.macro_grammar.specs.declared.words.Operator.{Operator}
use Rattle.macro_grammar.specs.declared.words.Operator.TheVariants.{Or, And, Equal, NotEqual, LessOrEqual, GreaterOrEqual, Less, Greater, Add, Subtract, Multiply, Divide, Remainder}
use Rattle.macro_grammar.specs.Grammar.{operator_text, OrOperator, AndOperator, IsComparison, CompareOperator, SumOperator, ProductOperator}
use Rattle.macro_grammar.specs.Readers.{is_product, product_operator_at, is_sum, sum_operator_at, is_compare, equals_at, compare_operator_at, and_operator_at, or_operator_at}

-- ---- "*", "/", "%"

abbrev product_of : Bool → Bool → Operator
product_of v w = cond v Multiply (cond w Divide Remainder)

product_by : (b : ℕ) (v w : Bool) → nat_eq 42 b ≡ v → nat_eq 47 b ≡ w → v || (w || nat_eq 37 b) ≡ true → ProductOperator 0 (b ∷ []) (product_of v w)
product_by b true w e f h = (ap (λ (c : ℕ). c ∷ []) (eq_means 42 b e), inl refl)
product_by b false true e f h = (ap (λ (c : ℕ). c ∷ []) (eq_means 47 b f), inr (inl refl))
product_by b false false e f h = (ap (λ (c : ℕ). c ∷ []) (eq_means 37 b h), inr (inr refl))

product_operator : (at : ℕ) (s : List ℕ) (o : Operator) → Wrapped (λ b. product_of (nat_eq 42 b) (nat_eq 47 b)) (IsItem is_product) s o → ProductOperator at s o
product_operator at s o (b, (m, e), v) = rw (e, v) (product_by b (nat_eq 42 b) (nat_eq 47 b) refl refl m)

pub reads_product_operator : (at : ℕ) (s : List ℕ) → Reads (product_operator_at at) (ProductOperator at) s
reads_product_operator at s = reads_as (product_operator_at at) (Wrapped (λ b. product_of (nat_eq 42 b) (nat_eq 47 b)) (IsItem is_product)) (ProductOperator at) s (product_operator at)
    (reads_wrapped (λ b. product_of (nat_eq 42 b) (nat_eq 47 b)) (item is_product) (IsItem is_product) s (reads_item is_product (record { byte = 42; meets = refl }) s))

pub product_back : (at : ℕ) (a r : List ℕ) (o : Operator) → ProductOperator at a o → product_operator_at at (a ++ r) ≡ (Some o, r)
product_back at a r o (e, inl f) = rw (e, f) refl
product_back at a r o (e, inr (inl f)) = rw (e, f) refl
product_back at a r o (e, inr (inr f)) = rw (e, f) refl

-- ---- "+", "-"

sum_by : (b : ℕ) (v : Bool) → nat_eq 43 b ≡ v → v || nat_eq 45 b ≡ true → SumOperator 0 (b ∷ []) (cond v Add Subtract)
sum_by b true e h = (ap (λ (c : ℕ). c ∷ []) (eq_means 43 b e), inl refl)
sum_by b false e h = (ap (λ (c : ℕ). c ∷ []) (eq_means 45 b h), inr refl)

sum_operator : (at : ℕ) (s : List ℕ) (o : Operator) → Wrapped (λ b. cond (nat_eq 43 b) Add Subtract) (IsItem is_sum) s o → SumOperator at s o
sum_operator at s o (b, (m, e), v) = rw (e, v) (sum_by b (nat_eq 43 b) refl m)

pub reads_sum_operator : (at : ℕ) (s : List ℕ) → Reads (sum_operator_at at) (SumOperator at) s
reads_sum_operator at s = reads_as (sum_operator_at at) (Wrapped (λ b. cond (nat_eq 43 b) Add Subtract) (IsItem is_sum)) (SumOperator at) s (sum_operator at)
    (reads_wrapped (λ b. cond (nat_eq 43 b) Add Subtract) (item is_sum) (IsItem is_sum) s (reads_item is_sum (record { byte = 43; meets = refl }) s))

pub sum_back : (at : ℕ) (a r : List ℕ) (o : Operator) → SumOperator at a o → sum_operator_at at (a ++ r) ≡ (Some o, r)
sum_back at a r o (e, inl f) = rw (e, f) refl
sum_back at a r o (e, inr f) = rw (e, f) refl

-- ---- "&&", "||"

twice : (byte : ℕ) (o : Operator) (s : List ℕ) → SomeItem (nat_eq byte) → Reads (bind (item (nat_eq byte)) (λ _. bind (item (nat_eq byte)) (λ _. done o))) (Then (IsItem (nat_eq byte)) (λ _. Wrapped (λ _. o) (IsItem (nat_eq byte)))) s
twice byte o s some = reads_then (item (nat_eq byte)) (λ _. bind (item (nat_eq byte)) (λ _. done o)) (IsItem (nat_eq byte)) (λ _. Wrapped (λ _. o) (IsItem (nat_eq byte))) s
    (λ _. (some.byte ∷ [], o, (some.byte, (some.meets, refl), refl))) (reads_item (nat_eq byte) some s) (λ _ r. reads_wrapped (λ _. o) (item (nat_eq byte)) (IsItem (nat_eq byte)) r (reads_item (nat_eq byte) some r))

and_operator : (at : ℕ) (s : List ℕ) (o : Operator) → Then (IsItem (nat_eq 38)) (λ _. Wrapped (λ _. And) (IsItem (nat_eq 38))) s o → AndOperator at s o
and_operator at s o (a, b, x, e, (t, f), (y, (u, g), v)) = let k = eq_means 38 x t in let l = eq_means 38 y u in rw (e, f, g, k, l, v) (refl, refl)

pub reads_and_operator : (at : ℕ) (s : List ℕ) → Reads (and_operator_at at) (AndOperator at) s
reads_and_operator at s = reads_as (and_operator_at at) (Then (IsItem (nat_eq 38)) (λ _. Wrapped (λ _. And) (IsItem (nat_eq 38)))) (AndOperator at) s (and_operator at) (twice 38 And s (only 38 refl))

pub and_back : (at : ℕ) (a r : List ℕ) (o : Operator) → AndOperator at a o → and_operator_at at (a ++ r) ≡ (Some o, r)
and_back at a r o (e, f) = rw (e, f) refl

or_operator : (at : ℕ) (s : List ℕ) (o : Operator) → Then (IsItem (nat_eq 124)) (λ _. Wrapped (λ _. Or) (IsItem (nat_eq 124))) s o → OrOperator at s o
or_operator at s o (a, b, x, e, (t, f), (y, (u, g), v)) = let k = eq_means 124 x t in let l = eq_means 124 y u in rw (e, f, g, k, l, v) (refl, refl)

pub reads_or_operator : (at : ℕ) (s : List ℕ) → Reads (or_operator_at at) (OrOperator at) s
reads_or_operator at s = reads_as (or_operator_at at) (Then (IsItem (nat_eq 124)) (λ _. Wrapped (λ _. Or) (IsItem (nat_eq 124)))) (OrOperator at) s (or_operator at) (twice 124 Or s (only 124 refl))

pub or_back : (at : ℕ) (a r : List ℕ) (o : Operator) → OrOperator at a o → or_operator_at at (a ++ r) ≡ (Some o, r)
or_back at a r o (e, f) = rw (e, f) refl

-- ---- comparisons

-- the first byte of a comparison, by the tests for "=", "!" and "<"
abbrev first_by : Bool → Bool → Bool → ℕ
first_by v w x = cond v 61 (cond w 33 (cond x 60 62))

-- what stands behind the first byte
abbrev Rest : Bool → Bool → Bool → List ℕ → Operator → Type 0
Rest v w x s o = (first_by v w x ∷ s ≡ operator_text o) × IsComparison o

abbrev rest_at : Bool → Bool → Bool → Read Operator
rest_at v w x = cond v (equals_at Equal) (cond w (equals_at NotEqual) (cond x (on_head (nat_eq 61) (equals_at LessOrEqual) (done Less)) (on_head (nat_eq 61) (equals_at GreaterOrEqual) (done Greater))))

equals : (o : Operator) (s : List ℕ) → Reads (equals_at o) (Wrapped (λ _. o) (IsItem (nat_eq 61))) s
equals o s = reads_wrapped (λ _. o) (item (nat_eq 61)) (IsItem (nat_eq 61)) s (reads_item (nat_eq 61) (only 61 refl) s)

with_equals : (byte : ℕ) (s : List ℕ) (o q : Operator) → operator_text o ≡ byte ∷ (61 ∷ []) → IsComparison o → Wrapped (λ _. o) (IsItem (nat_eq 61)) s q → ((byte ∷ s) ≡ operator_text q) × IsComparison q
with_equals byte s o q text is (b, (m, e), v) = let k = eq_means 61 b m in rw (e, v, k) (sym text, is)

reads_rest : (v w x : Bool) (s : List ℕ) → Reads (rest_at v w x) (Rest v w x) s
reads_rest true w x s = reads_as (equals_at Equal) (Wrapped (λ _. Equal) (IsItem (nat_eq 61))) (Rest true w x) s (λ f o h. with_equals 61 f Equal o refl (inl refl) h) (equals Equal s)
reads_rest false true x s = reads_as (equals_at NotEqual) (Wrapped (λ _. NotEqual) (IsItem (nat_eq 61))) (Rest false true x) s (λ f o h. with_equals 33 f NotEqual o refl (inr (inl refl)) h) (equals NotEqual s)
reads_rest false false true s = reads_head (nat_eq 61) (equals_at LessOrEqual) (done Less) (Rest false false true) s
    (λ b t e. reads_as (equals_at LessOrEqual) (Wrapped (λ _. LessOrEqual) (IsItem (nat_eq 61))) (Rest false false true) (b ∷ t) (λ f o h. with_equals 60 f LessOrEqual o refl (inr (inr (inl refl))) h) (equals LessOrEqual (b ∷ t)))
    (λ t. reads_done (Rest false false true) Less t (refl, inr (inr (inr (inr (inl refl))))))
reads_rest false false false s = reads_head (nat_eq 61) (equals_at GreaterOrEqual) (done Greater) (Rest false false false) s
    (λ b t e. reads_as (equals_at GreaterOrEqual) (Wrapped (λ _. GreaterOrEqual) (IsItem (nat_eq 61))) (Rest false false false) (b ∷ t) (λ f o h. with_equals 62 f GreaterOrEqual o refl (inr (inr (inr (inl refl)))) h) (equals GreaterOrEqual (b ∷ t)))
    (λ t. reads_done (Rest false false false) Greater t (refl, inr (inr (inr (inr (inr refl))))))

first_means : (b : ℕ) (v w x : Bool) → nat_eq 61 b ≡ v → nat_eq 33 b ≡ w → nat_eq 60 b ≡ x → v || (w || (x || nat_eq 62 b)) ≡ true → b ≡ first_by v w x
first_means b true w x e f g h = eq_means 61 b e
first_means b false true x e f g h = eq_means 33 b f
first_means b false false true e f g h = eq_means 60 b g
first_means b false false false e f g h = eq_means 62 b h

some_rest : (v w x : Bool) → (s : List ℕ) × (o : Operator) × Rest v w x s o
some_rest true w x = (61 ∷ [], Equal, (refl, inl refl))
some_rest false true x = (61 ∷ [], NotEqual, (refl, inr (inl refl)))
some_rest false false true = ([], Less, (refl, inr (inr (inr (inr (inl refl))))))
some_rest false false false = ([], Greater, (refl, inr (inr (inr (inr (inr refl))))))

compare_joins : (at : ℕ) → Sequence (IsItem is_compare) (λ b. Rest (nat_eq 61 b) (nat_eq 33 b) (nat_eq 60 b)) (CompareOperator at)
compare_joins at = record {
  then = λ a s b o g h.
      let k = first_means b (nat_eq 61 b) (nat_eq 33 b) (nat_eq 60 b) refl refl refl g.0 in
      let e = g.1 in
      (rw e (ap (λ (c : ℕ). c ∷ s) k ∙ h.0), h.1);
  ends = λ a b g. some_rest (nat_eq 61 b) (nat_eq 33 b) (nat_eq 60 b);
}

pub reads_compare_operator : (at : ℕ) (s : List ℕ) → Reads (compare_operator_at at) (CompareOperator at) s
unfolding compare_operator_at
reads_compare_operator at s = reads_bind (item is_compare) (λ b. rest_at (nat_eq 61 b) (nat_eq 33 b) (nat_eq 60 b)) (IsItem is_compare) (λ b. Rest (nat_eq 61 b) (nat_eq 33 b) (nat_eq 60 b)) (CompareOperator at) (compare_joins at) s
    (reads_item is_compare (record { byte = 61; meets = refl }) s) (λ b. reads_rest (nat_eq 61 b) (nat_eq 33 b) (nat_eq 60 b) _)

one_byte : (p : Read Operator) (o : Operator) (r : List ℕ) → Free (nat_eq 61) r → on_head (nat_eq 61) p (done o) r ≡ (Some o, r)
one_byte p o [] h = refl
one_byte p o (b ∷ r) h = rw h refl

-- a comparison is read again, where no "=" follows it
pub compare_back : (at : ℕ) (a r : List ℕ) (o : Operator) → CompareOperator at a o → Free (nat_eq 61) r → compare_operator_at at (a ++ r) ≡ (Some o, r)
unfolding compare_operator_at
compare_back at a r o (e, inl f) free = rw (e, f) refl
compare_back at a r o (e, inr (inl f)) free = rw (e, f) refl
compare_back at a r o (e, inr (inr (inl f))) free = rw (e, f) refl
compare_back at a r o (e, inr (inr (inr (inl f)))) free = rw (e, f) refl
compare_back at a r o (e, inr (inr (inr (inr (inl f))))) free = rw (e, f) (one_byte (equals_at LessOrEqual) Less r free)
compare_back at a r o (e, inr (inr (inr (inr (inr f))))) free = rw (e, f) (one_byte (equals_at GreaterOrEqual) Greater r free)

-- ---- how operators begin

pub product_begins : (inner : ℕ → Bool) (at : ℕ) (a : List ℕ) (o : Operator) → inner 42 ≡ false → inner 47 ≡ false → inner 37 ≡ false → ProductOperator at a o → (c : ℕ) × (w : List ℕ) × (a ≡ c ∷ w) × (is_product c ≡ true) × (inner c ≡ false)
product_begins inner at a o i j k (e, inl f) = (42, [], rw (e, f) refl, refl, i)
product_begins inner at a o i j k (e, inr (inl f)) = (47, [], rw (e, f) refl, refl, j)
product_begins inner at a o i j k (e, inr (inr f)) = (37, [], rw (e, f) refl, refl, k)

pub sum_begins : (inner : ℕ → Bool) (at : ℕ) (a : List ℕ) (o : Operator) → inner 43 ≡ false → inner 45 ≡ false → SumOperator at a o → (c : ℕ) × (w : List ℕ) × (a ≡ c ∷ w) × (is_sum c ≡ true) × (inner c ≡ false)
sum_begins inner at a o i j (e, inl f) = (43, [], rw (e, f) refl, refl, i)
sum_begins inner at a o i j (e, inr f) = (45, [], rw (e, f) refl, refl, j)

pub and_begins : (inner : ℕ → Bool) (at : ℕ) (a : List ℕ) (o : Operator) → inner 38 ≡ false → AndOperator at a o → (c : ℕ) × (w : List ℕ) × (a ≡ c ∷ w) × (nat_eq 38 c ≡ true) × (inner c ≡ false)
and_begins inner at a o i (e, f) = (38, 38 ∷ [], rw (e, f) refl, refl, i)

pub or_begins : (inner : ℕ → Bool) (at : ℕ) (a : List ℕ) (o : Operator) → inner 124 ≡ false → OrOperator at a o → (c : ℕ) × (w : List ℕ) × (a ≡ c ∷ w) × (nat_eq 124 c ≡ true) × (inner c ≡ false)
or_begins inner at a o i (e, f) = (124, 124 ∷ [], rw (e, f) refl, refl, i)

pub compare_begins : (inner : ℕ → Bool) (at : ℕ) (a : List ℕ) (o : Operator) → inner 61 ≡ false → inner 33 ≡ false → inner 60 ≡ false → inner 62 ≡ false → CompareOperator at a o → (c : ℕ) × (w : List ℕ) × (a ≡ c ∷ w) × (is_compare c ≡ true) × (inner c ≡ false)
compare_begins inner at a o i j k l (e, inl f) = (61, 61 ∷ [], rw (e, f) refl, refl, i)
compare_begins inner at a o i j k l (e, inr (inl f)) = (33, 61 ∷ [], rw (e, f) refl, refl, j)
compare_begins inner at a o i j k l (e, inr (inr (inl f))) = (60, 61 ∷ [], rw (e, f) refl, refl, k)
compare_begins inner at a o i j k l (e, inr (inr (inr (inl f)))) = (62, 61 ∷ [], rw (e, f) refl, refl, l)
compare_begins inner at a o i j k l (e, inr (inr (inr (inr (inl f))))) = (60, [], rw (e, f) refl, refl, k)
compare_begins inner at a o i j k l (e, inr (inr (inr (inr (inr f))))) = (62, [], rw (e, f) refl, refl, l)
