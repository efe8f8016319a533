-- Statements, as they are read against the grammar's, and read again.
use Rattle.std.proofs.Common.{◌≡◌, ℕ, suc, ◌+◌, true, List, [], ◌∷◌, ◌++◌, length, refl, sym, ap, subst, ◌∙◌, append_assoc, add-zero, arith, inl, inr, ◌⊎◌}
use Rattle.std.specs.Prelude.{nat_eq}
use Rattle.reading.specs.Reading.{Read, done, bind, on_head, item}
use Rattle.reading.specs.Placed.{Grammar, bind_at}
use Rattle.reading.proofs.Pairs.{eq_means}
use Rattle.reading.proofs.Laws.{Reads, reads_as, reads_item, reads_head, IsItem}
use Rattle.reading.proofs.Combine.{only, Wrapped, reads_wrapped}
use Rattle.reading.proofs.Placed.{PlacedSequence, reads_bind_at, Inhabited}
use Rattle.macro_grammar.specs.declared.words.Operator.TheVariants.{Equal}
use Rattle.macro_grammar.specs.Tree.{Tree, Number, Dice, Quoted, Name, Call0, Call1, Call2, Call3, Negated, Inverted, Binary, Assigned}
use Rattle.macro_grammar.specs.Grammar.{AreBlanks, IsAtom, IsPrefixed, IsUnary, IsSum, IsExpression, IsExpr, IsStatement}
use Rattle.macro_grammar.specs.Readers.{blanks_at, is_letter, expression_at, unary_at, expr_at, word_at, then_blanks, expression_from, equal_from, after_name, after_word, statement_at}
use Rattle.macro_grammar.proofs.Names.{TheBlanks, reads_blanks}
use Rattle.macro_grammar.proofs.LevelWords.{some_sum, reads_expression, some_expression}
use Rattle.macro_grammar.proofs.Calls.{ThenAt, reads_then_at, IsWord, reads_word}
use Rattle.macro_grammar.proofs.Unaries.{WithBlanks, reads_then_blanks, reads_unary, some_unary, reads_expr, some_expr}
use Rattle.macro_grammar.proofs.FirstUnary.{AndsFrom, SumFrom, ProductFrom, UnaryFrom, EqualFrom, ands_end, unary_end, reads_expression_from, reads_equal_from, place_front, unary_join, first_unary}

module _ (unary : ℕ → Read Tree) (Unary : Grammar Tree) (reads_one : (at : ℕ) (s : List ℕ) → Reads (unary at) (Unary at) s) (some_one : Inhabited Unary) (turns : ℕ) where
  -- behind "=": the right side of an assignment, or another "=" and the rest of a comparison
  abbrev Second : ℕ → List ℕ → ℕ → ℕ → List ℕ → Tree → Type 0
  Second place name at at2 s t = Wrapped (Assigned place name) (IsExpression Unary at2) s t ⊎ ((b : List ℕ) × (s ≡ 61 ∷ b) × EqualFrom Unary at (at2 + 1) (Name place name) b t)

  second_equal : (place : ℕ) (name : List ℕ) (at at2 : ℕ) (a s : List ℕ) (c : ℕ) (t : Tree) → IsItem (nat_eq 61) a c → EqualFrom Unary at (at2 + length a) (Name place name) s t → Second place name at at2 (a ++ s) t
  second_equal place name at at2 a s c t g h =
      let front : a ≡ 61 ∷ [] = g.1 ∙ ap (λ (w : ℕ). w ∷ []) (eq_means 61 c g.0) in
      let one : at2 + length a ≡ at2 + 1 = ap (λ (w : List ℕ). at2 + length w) front in
      inr (s, rw front refl, subst (λ (n : ℕ). EqualFrom Unary at n (Name place name) s t) one h)

  equal_end : (place at : ℕ) (x : Tree) → (b : List ℕ) × (t : Tree) × EqualFrom Unary place at x b t
  equal_end place at x =
      let w = some_sum unary Unary reads_one some_one turns at in
      let e = ands_end Unary (at + length w.0) (Binary place Equal x w.1) in
      (w.0 ++ e.0, e.1, (w.0, e.0, w.1, refl, w.2, e.2))

  reads_second : (place : ℕ) (name : List ℕ) (at at2 : ℕ) (s : List ℕ) → Reads (on_head (nat_eq 61) (bind_at at2 (λ _. item (nat_eq 61)) (λ at3 _. equal_from unary turns at at3 (Name place name))) (bind (expression_at unary turns at2) (λ x. done (Assigned place name x)))) (Second place name at at2) s
  reads_second place name at at2 s = reads_head (nat_eq 61) (bind_at at2 (λ _. item (nat_eq 61)) (λ at3 _. equal_from unary turns at at3 (Name place name))) (bind (expression_at unary turns at2) (λ x. done (Assigned place name x))) (Second place name at at2) s
      (λ b t e. reads_bind_at at2 (λ _. item (nat_eq 61)) (λ at3 _. equal_from unary turns at at3 (Name place name)) (λ _. IsItem (nat_eq 61)) (λ at3 _. EqualFrom Unary at at3 (Name place name)) (λ at4. Second place name at at4)
      (record { then = λ a u c v g h. second_equal place name at at2 a u c v g h; ends = λ a c g. equal_end at (at2 + length a) (Name place name) }) (b ∷ t)
      (reads_item (nat_eq 61) (only 61 refl) (b ∷ t)) (λ at3 c r. reads_equal_from unary Unary reads_one some_one turns at at3 (Name place name) r))
      (λ t. reads_as (bind (expression_at unary turns at2) (λ x. done (Assigned place name x))) (Wrapped (Assigned place name) (IsExpression Unary at2)) (Second place name at at2) t (λ f x h. inl h)
      (reads_wrapped (Assigned place name) (expression_at unary turns at2) (IsExpression Unary at2) t (reads_expression unary Unary reads_one some_one turns at2 t)))

  -- behind a name alone
  abbrev pub NameFrom : ℕ → List ℕ → ℕ → List ℕ → Tree → Type 0
  NameFrom place name at s t = UnaryFrom Unary at (Name place name) s t
      ⊎ (((a : List ℕ) × (s ≡ 61 ∷ a) × Wrapped (Assigned place name) (IsExpression Unary (at + 1)) a t)
      ⊎ ((b : List ℕ) × (s ≡ 61 ∷ (61 ∷ b)) × EqualFrom Unary at ((at + 1) + 1) (Name place name) b t))

  name_second : (place : ℕ) (name : List ℕ) (at : ℕ) (a s : List ℕ) (t : Tree) → a ≡ 61 ∷ [] → Second place name at (at + 1) s t → NameFrom place name at (a ++ s) t
  name_second place name at a s t front (inl h) = inr (inl (s, rw front refl, h))
  name_second place name at a s t front (inr (b, e, h)) = inr (inr (b, rw (front, e) refl, h))

  name_then : (place : ℕ) (name : List ℕ) (at : ℕ) (a s : List ℕ) (c : ℕ) (t : Tree) → IsItem (nat_eq 61) a c → Second place name at (at + length a) s t → NameFrom place name at (a ++ s) t
  name_then place name at a s c t g h =
      let front : a ≡ 61 ∷ [] = g.1 ∙ ap (λ (w : ℕ). w ∷ []) (eq_means 61 c g.0) in
      let one : at + length a ≡ at + 1 = ap (λ (w : List ℕ). at + length w) front in
      name_second place name at a s t front (subst (λ (n : ℕ). Second place name at n s t) one h)

  second_end : (place : ℕ) (name : List ℕ) (at at2 : ℕ) → (b : List ℕ) × (t : Tree) × Second place name at at2 b t
  second_end place name at at2 = let w = some_expression unary Unary reads_one some_one turns at2 in (w.0, Assigned place name w.1, inl (w.1, w.2, refl))

  reads_after_name : (place : ℕ) (name : List ℕ) (at : ℕ) (s : List ℕ) → Reads (after_name unary turns place name at) (NameFrom place name at) s
  reads_after_name place name at s = reads_head (nat_eq 61)
      (bind_at at (λ _. item (nat_eq 61)) (λ at2 _. on_head (nat_eq 61) (bind_at at2 (λ _. item (nat_eq 61)) (λ at3 _. equal_from unary turns at at3 (Name place name))) (bind (expression_at unary turns at2) (λ x. done (Assigned place name x)))))
      (expression_from unary turns at (Name place name)) (NameFrom place name at) s
      (λ b t e. reads_bind_at at (λ _. item (nat_eq 61)) (λ at2 _. on_head (nat_eq 61) (bind_at at2 (λ _. item (nat_eq 61)) (λ at3 _. equal_from unary turns at at3 (Name place name))) (bind (expression_at unary turns at2) (λ x. done (Assigned place name x))))
      (λ _. IsItem (nat_eq 61)) (λ at2 _. Second place name at at2) (λ at4. NameFrom place name at4)
      (record { then = λ a u c v g h. name_then place name at a u c v g h; ends = λ a c g. second_end place name at (at + length a) }) (b ∷ t)
      (reads_item (nat_eq 61) (only 61 refl) (b ∷ t)) (λ at2 c r. reads_second place name at at2 r))
      (λ t. reads_as (expression_from unary turns at (Name place name)) (UnaryFrom Unary at (Name place name)) (NameFrom place name at) t (λ f x h. inl h) (reads_expression_from unary Unary reads_one some_one turns at (Name place name) t))

  abbrev pub WordFrom : ℕ → Tree → List ℕ → Tree → Type 0
  WordFrom at x s t = UnaryFrom Unary at x s t ⊎ ((place : ℕ) × (name : List ℕ) × (x ≡ Name place name) × NameFrom place name at s t)

  other_word : (at : ℕ) (x : Tree) (s : List ℕ) → Reads (expression_from unary turns at x) (WordFrom at x) s
  other_word at x s = reads_as (expression_from unary turns at x) (UnaryFrom Unary at x) (WordFrom at x) s (λ f t h. inl h) (reads_expression_from unary Unary reads_one some_one turns at x s)

  pub reads_after_word : (at : ℕ) (x : Tree) (s : List ℕ) → Reads (after_word unary turns at x) (WordFrom at x) s
  reads_after_word at (Name p n) s = reads_as (after_name unary turns p n at) (NameFrom p n at) (WordFrom at (Name p n)) s (λ f t h. inr (p, n, refl, h)) (reads_after_name p n at s)
  reads_after_word at (Number p n) s = other_word at (Number p n) s
  reads_after_word at (Dice p g) s = other_word at (Dice p g) s
  reads_after_word at (Quoted p m) s = other_word at (Quoted p m) s
  reads_after_word at (Call0 p f) s = other_word at (Call0 p f) s
  reads_after_word at (Call1 p f x) s = other_word at (Call1 p f x) s
  reads_after_word at (Call2 p f x y) s = other_word at (Call2 p f x y) s
  reads_after_word at (Call3 p f x y z) s = other_word at (Call3 p f x y z) s
  reads_after_word at (Negated p u) s = other_word at (Negated p u) s
  reads_after_word at (Inverted p u) s = other_word at (Inverted p u) s
  reads_after_word at (Binary p o x y) s = other_word at (Binary p o x y) s
  reads_after_word at (Assigned p n u) s = other_word at (Assigned p n u) s

-- ---- what was read is a statement

blanks_append : (w v : List ℕ) → AreBlanks w → AreBlanks v → AreBlanks (w ++ v)
blanks_append [] v h g = g
blanks_append (b ∷ w) v h g = (h.0, blanks_append w v h.1 g)

module _ (depth : ℕ) where
  -- blanks before a unary are its own
  unary_blanks : (at : ℕ) (w s : List ℕ) (x : Tree) → AreBlanks w → IsUnary (suc depth) (at + length w) s x → IsUnary (suc depth) at (w ++ s) x
  unary_blanks at w s x bl (v, b, e, bl2, h) =
      let whole : w ++ s ≡ (w ++ v) ++ b = ap (λ (z : List ℕ). w ++ z) e ∙ sym (append_assoc w v b) in
      let place = place_front at w v in (
        w ++ v,
        b,
        whole,
        blanks_append w v bl bl2,
        subst (λ (n : ℕ). IsPrefixed true (IsUnary depth) n b x ⊎ WithBlanks (IsAtom true (IsExpr depth)) n b x) place h,
      )

  pub expr_blanks : (at : ℕ) (w s : List ℕ) (t : Tree) → AreBlanks w → IsExpr (suc depth) (at + length w) s t → IsExpr (suc depth) at (w ++ s) t
  expr_blanks at w s t bl h =
      let k = first_unary (IsUnary (suc depth)) (at + length w) s t h in
      let whole : w ++ s ≡ (w ++ k.0) ++ k.1 = ap (λ (z : List ℕ). w ++ z) k.3 ∙ sym (append_assoc w k.0 k.1) in
      rw whole (unary_join (IsUnary (suc depth)) at (w ++ k.0) k.1 k.2 t (unary_blanks at w k.0 k.2 bl k.4) (subst (λ (n : ℕ). UnaryFrom (IsUnary (suc depth)) n k.2 k.1 t) (place_front at w k.0) k.5))

  -- "==" and the rest of a comparison are the rest of an expression
  pub equal_is_from : (at : ℕ) (x : Tree) (b : List ℕ) (t : Tree) → EqualFrom (IsUnary (suc depth)) at ((at + 1) + 1) x b t → UnaryFrom (IsUnary (suc depth)) at x (61 ∷ (61 ∷ b)) t
  equal_is_from at x b t (c, d, y, e, h, ands) =
      let two : (at + 1) + 1 ≡ at + 2 = omega arith in
      let zero1 : at + 0 ≡ at = add-zero at in
      let sum2 = subst (λ (n : ℕ). IsSum (IsUnary (suc depth)) n c y) two h in
      let len : at + length (61 ∷ (61 ∷ c)) ≡ ((at + 1) + 1) + length c = omega arith in
      let rest : ProductFrom (IsUnary (suc depth)) at x (61 ∷ (61 ∷ b)) t
      = (
        [],
        61 ∷ (61 ∷ b),
        x,
        refl,
        ([], (refl, refl)),
        subst (λ (n : ℕ). SumFrom (IsUnary (suc depth)) n x (61 ∷ (61 ∷ b)) t) (sym zero1)
            (61 ∷ (61 ∷ c), d, Binary at Equal x y, ap (λ (z : List ℕ). 61 ∷ (61 ∷ z)) e, inr (61 ∷ (61 ∷ []), c, Equal, y, refl, refl, (refl, inl refl), sum2), subst (λ (n : ℕ). AndsFrom (IsUnary (suc depth)) n (Binary at Equal x y) d t) (sym len) ands),
      ) in
      ([], 61 ∷ (61 ∷ b), x, refl, ([], (refl, refl)), subst (λ (n : ℕ). ProductFrom (IsUnary (suc depth)) n x (61 ∷ (61 ∷ b)) t) (sym zero1) rest)

  word_unary : (at : ℕ) (w a : List ℕ) (x : Tree) → AreBlanks w → WithBlanks (IsWord true (expr_at depth 0) (IsExpr depth)) (at + length w) a x → IsUnary (suc depth) at (w ++ a) x
  word_unary at w a x bl (wd, v, e, bl2, inl h) = (w, a, refl, bl, inr (wd, v, e, bl2, inl h))
  word_unary at w a x bl (wd, v, e, bl2, inr h) = (w, a, refl, bl, inr (wd, v, e, bl2, inr (inl h)))

  abbrev Lettered : ℕ → List ℕ → Tree → Type 0
  Lettered at = ThenAt (WithBlanks (IsWord true (expr_at depth 0) (IsExpr depth))) (WordFrom (unary_at 0 (suc depth)) (IsUnary (suc depth)) (reads_unary 0 (suc depth)) (some_unary (suc depth)) 0) at

  from_first : (at : ℕ) (w a s : List ℕ) (x t : Tree) → AreBlanks w → WithBlanks (IsWord true (expr_at depth 0) (IsExpr depth)) (at + length w) a x → UnaryFrom (IsUnary (suc depth)) ((at + length w) + length a) x s t → IsExpr (suc depth) at (w ++ (a ++ s)) t
  from_first at w a s x t bl word h =
      rw (← append_assoc) (unary_join (IsUnary (suc depth)) at (w ++ a) s x t (word_unary at w a x bl word) (subst (λ (n : ℕ). UnaryFrom (IsUnary (suc depth)) n x s t) (place_front at w a) h))

  assigned : (at : ℕ) (w a s : List ℕ) (place : ℕ) (name : List ℕ) (t : Tree) → AreBlanks w → WithBlanks (IsWord true (expr_at depth 0) (IsExpr depth)) (at + length w) a (Name place name)
      → (c : List ℕ) × (s ≡ 61 ∷ c) × Wrapped (Assigned place name) (IsExpr (suc depth) (((at + length w) + length a) + 1)) c t → IsStatement (suc depth) at (w ++ (a ++ s)) t
  assigned at w a s place name t bl (wd, v, e, bl2, inr h) (c, e2, (x, g, u)) = absurd h
  assigned at w a s place name t bl (wd, v, e, bl2, inl (pl, same, is)) (c, e2, (x, g, u)) =
      let front : a ≡ name ++ v = rw (← same) e in
      let spot : ((at + length w) + length a) + 1 ≡ (((at + length w) + length name) + length v) + 1 = ap (λ (n : ℕ). n + 1) (ap (λ (z : List ℕ). (at + length w) + length z) front ∙ sym (place_front (at + length w) name v)) in
      inl (w, name, v, c, x, rw (front, e2) (ap (λ (z : List ℕ). w ++ z) (append_assoc name v (61 ∷ c))), rw pl at u, bl, is, bl2, subst (λ (n : ℕ). IsExpr (suc depth) n c x) spot g)

  lettered_statement : (at : ℕ) (w s : List ℕ) (t : Tree) → AreBlanks w → Lettered (at + length w) s t → IsStatement (suc depth) at (w ++ s) t
  lettered_statement at w s t bl (a, c, x, e, word, inl h) = rw e (inr (from_first at w a c x t bl word h))
  lettered_statement at w s t bl (a, c, x, e, word, inr (place, name, same, inl h)) = rw e (inr (from_first at w a c x t bl word (rw (← same) at h)))
  lettered_statement at w s t bl (a, c, x, e, word, inr (place, name, same, inr (inl h))) = rw e (assigned at w a c place name t bl (subst (λ (u : Tree). WithBlanks (IsWord true (expr_at depth 0) (IsExpr depth)) (at + length w) a u) same word) h)
  lettered_statement at w s t bl (a, c, x, e, word, inr (place, name, same, inr (inr (b, e2, h)))) =
      rw (e, e2) (inr (from_first at w a (61 ∷ (61 ∷ b)) x t bl word (subst (λ (u : Tree). UnaryFrom (IsUnary (suc depth)) ((at + length w) + length a) u (61 ∷ (61 ∷ b)) t) (sym same) (equal_is_from ((at + length w) + length a) (Name place name) b t h))))

  -- behind the blanks that a statement begins with
  abbrev Unblanked : ℕ → List ℕ → Tree → Type 0
  Unblanked at s t = Lettered at s t ⊎ IsExpr (suc depth) at s t

  statement_joins : (at : ℕ) → PlacedSequence at (λ _. TheBlanks) (λ at2 _. Unblanked at2) (IsStatement (suc depth))
  statement_joins at = record {
    then = λ w s x t g h. unblanked at w s t g.0 h;
    ends = λ w x g. let k = some_expr (suc depth) (at + length w) in (k.0, k.1, inr k.2);
  } where
    unblanked : (at2 : ℕ) (w s : List ℕ) (t : Tree) → AreBlanks w → Unblanked (at2 + length w) s t → IsStatement (suc depth) at2 (w ++ s) t
    unblanked at2 w s t bl (inl h) = lettered_statement at2 w s t bl h
    unblanked at2 w s t bl (inr h) = inr (expr_blanks at2 w s t bl h)

  pub reads_statement : (turns at : ℕ) (s : List ℕ) → Reads (statement_at depth turns at) (IsStatement (suc depth) at) s
  unfolding statement_at
  reads_statement turns at s = reads_bind_at at (λ _. blanks_at) (λ at2 _. on_head is_letter
      (bind_at at2 (λ at3. then_blanks (word_at true (expr_at depth turns) at3)) (after_word (unary_at turns (suc depth)) turns))
      (expr_at (suc depth) turns at2)) (λ _. TheBlanks) (λ at2 _. Unblanked at2) (IsStatement (suc depth)) (statement_joins at) s
      (reads_blanks s)
      (λ at2 x r. reads_head is_letter (bind_at at2 (λ at3. then_blanks (word_at true (expr_at depth turns) at3)) (after_word (unary_at turns (suc depth)) turns)) (expr_at (suc depth) turns at2) (Unblanked at2) r
      (λ b t e. reads_as (bind_at at2 (λ at3. then_blanks (word_at true (expr_at depth turns) at3)) (after_word (unary_at turns (suc depth)) turns)) (Lettered at2) (Unblanked at2) (b ∷ t) (λ f u h. inl h)
      (reads_then_at at2 (λ at3. then_blanks (word_at true (expr_at depth turns) at3)) (after_word (unary_at turns (suc depth)) turns) (WithBlanks (IsWord true (expr_at depth 0) (IsExpr depth)))
      (WordFrom (unary_at 0 (suc depth)) (IsUnary (suc depth)) (reads_unary 0 (suc depth)) (some_unary (suc depth)) 0) (b ∷ t)
      (λ at3 u. ([], u, inl (unary_end (IsUnary (suc depth)) at3 u)))
      (reads_then_blanks (word_at true (expr_at depth turns) at2) (IsWord true (expr_at depth 0) (IsExpr depth)) at2 (b ∷ t) (reads_word true (expr_at depth turns) (IsExpr depth) (λ _. reads_expr depth turns) (λ _. some_expr depth) at2 (b ∷ t)))
      (λ at3 u q. reads_after_word (unary_at turns (suc depth)) (IsUnary (suc depth)) (reads_unary turns (suc depth)) (some_unary (suc depth)) turns at3 u q)))
      (λ t. reads_as (expr_at (suc depth) turns at2) (IsExpr (suc depth) at2) (Unblanked at2) t (λ f u h. inr h) (reads_expr (suc depth) turns at2 t)))
