-- Unaries, by how many may still nest: each is read as its grammar says, and each word is read again.
use Rattle.std.proofs.Common.{◌≡◌, ℕ, zero, suc, ◌+◌, ◌<◌, Bool, true, false, ◌&&◌, ◌||◌, List, [], ◌∷◌, ◌++◌, length, Some, refl, ap, ◌∙◌, append_assoc, arith, inl, inr, ◌⊎◌}
use Rattle.std.specs.Prelude.{nat_eq}
use Rattle.std.proofs.lemmas.Bool.Decides.{nat_tests}
use Rattle.std.proofs.lemmas.List.{length-append}
use Rattle.reading.specs.Reading.{Read, done, bind, item}
use Rattle.reading.specs.Number.{IsDigit, IsNumber, is_digit}
use Rattle.reading.specs.Placed.{Grammar}
use Rattle.reading.proofs.Pairs.{eq_means, Free}
use Rattle.reading.proofs.Laws.{Reads, reads_bind, reads_as, reads_item, reads_head, IsItem}
use Rattle.reading.proofs.Combine.{only, Wrapped, reads_wrapped}
use Rattle.reading.proofs.Number.{means_digit}
use Rattle.reading.proofs.Placed.{bind_at_is, PlacedSequence, reads_bind_at, Inhabited}
use Rattle.dice_parse.specs.declared.parts.Group.{Group}
use Rattle.dice_parse.specs.Groups.{IsCounted}
use Rattle.macro_grammar.specs.declared.words.Function.{Function}
use Rattle.macro_grammar.specs.Tree.{Tree, Number, Dice, Quoted, Name, Call0, Call1, Call2, Call3, Negated, Inverted, Binary, Assigned}
use Rattle.macro_grammar.specs.Grammar.{AreBlanks, IsLetter, IsName, IsLeaf, IsCall, IsGrouped, IsAtom, IsPrefixed, IsAtomBlanks, IsUnaryOf, IsNothing, IsUnary, IsExpression, IsExpr, IsQuoted, function_name}
use Rattle.macro_grammar.specs.Readers.{is_blank, blanks_at, is_letter, is_name_byte, number_or_dice_at, quoted_at, word_at, closed, group_at, atom_at, then_blanks, prefixed_at, inner_at, expression_at, unary_of_at, nothing_at, unary_at, expr_at}
use Rattle.macro_grammar.proofs.Names.{TheBlanks, reads_blanks, blanks_back, letter_test, letter_no_digit}
use Rattle.macro_grammar.proofs.LevelWords.{reads_expression, some_expression, is_inner, is_expression, expression_again, free_left, free_right}
use Rattle.macro_grammar.proofs.Leaves.{and_left, reads_number_or_dice, reads_quoted, number_again, dice_again, quoted_again}
use Rattle.macro_grammar.proofs.Calls.{Argument, reads_argument, reads_closed, some_closed, closed_is, argument_again, reads_word, IsWord, name_again, call_again, name_is}

-- ---- blanks behind a value

abbrev pub BlanksOf : {A : Type 0} → A → List ℕ → A → Type 0
BlanksOf x s y = AreBlanks s × (y ≡ x)

blanks_of : {A : Type 0} (x : A) (s : List ℕ) (y : A) → Wrapped (λ _. x) TheBlanks s y → BlanksOf x s y
blanks_of x s y (w, h, v) = (h.0, v)

pub reads_blanks_of : {A : Type 0} (x : A) (s : List ℕ) → Reads (bind blanks_at (λ _. done x)) (BlanksOf x) s
reads_blanks_of x s = reads_as (bind blanks_at (λ _. done x)) (Wrapped (λ _. x) TheBlanks) (BlanksOf x) s (blanks_of x) (reads_wrapped (λ _. x) blanks_at TheBlanks s (reads_blanks s))

-- a word and blanks
abbrev pub WithBlanks : Grammar Tree → Grammar Tree
WithBlanks G at s t = (a : List ℕ) × (v : List ℕ) × (s ≡ a ++ v) × AreBlanks v × G at a t

pub reads_then_blanks : (p : Read Tree) (G : Grammar Tree) (at : ℕ) (s : List ℕ) → Reads p (G at) s → Reads (then_blanks p) (WithBlanks G at) s
reads_then_blanks p G at s r = reads_bind p (λ t. bind blanks_at (λ _. done t)) (G at) BlanksOf (WithBlanks G at)
    (record { then = λ a v t u g h. let e = h.1 in (a, v, refl, h.0, rw e g); ends = λ a t g. ([], t, (tt, refl)) }) s r (λ t. reads_blanks_of t _)

-- ---- atoms

zero_leaf : (at : ℕ) → IsLeaf at (48 ∷ []) (Number at 0)
zero_leaf at = (refl, inl (refl, refl, refl))

module _ (nests : Bool) (expr : ℕ → Read Tree) (Expr : Grammar Tree) (reads_expr : nests ≡ true → (at : ℕ) (s : List ℕ) → Reads (expr at) (Expr at) s) (some_expr : nests ≡ true → Inhabited Expr) where
  group_is : (at : ℕ) (s : List ℕ) (t : Tree) → nests ≡ true → Argument Expr 40 (λ at2 x. Wrapped (λ _. x) (IsItem (nat_eq 41))) at s t → IsGrouped nests Expr at s t
  group_is at s t may_nest (a, b, x, e, h, last) = let q = closed_is x t b last in let z = q.0 in (may_nest, a, rw (e, z) refl, rw q.1 h)

  reads_group : (at : ℕ) (s : List ℕ) → nests ≡ true → Reads (group_at expr at) (IsGrouped nests Expr at) s
  unfolding group_at
  reads_group at s may_nest = reads_as (group_at expr at) (Argument Expr 40 (λ at2 x. Wrapped (λ _. x) (IsItem (nat_eq 41))) at) (IsGrouped nests Expr at) s (λ f x h. group_is at f x may_nest h)
      (reads_argument expr Expr 40 at (λ at2 t. closed t) (λ at2 x. Wrapped (λ _. x) (IsItem (nat_eq 41))) s refl (reads_expr may_nest) (some_expr may_nest) (λ at2 x. some_closed x) (λ at2 x r. reads_closed x r))

  word_is : (at : ℕ) (s : List ℕ) (t : Tree) → IsWord nests expr Expr at s t → IsAtom nests Expr at s t
  word_is at s t (inl h) = inl h
  word_is at s t (inr h) = inr (inl h)

  pub reads_atom : (at : ℕ) (s : List ℕ) → Reads (atom_at nests expr at) (IsAtom nests Expr at) s
  unfolding atom_at
  reads_atom at s = reads_head is_digit (number_or_dice_at at) _ (IsAtom nests Expr at) s
      (λ b t e. reads_as (number_or_dice_at at) (IsLeaf at) (IsAtom nests Expr at) (b ∷ t) (λ f x h. inl h) (reads_number_or_dice at (b ∷ t)))
      (λ u. reads_head (nat_eq 34) (quoted_at at) _ (IsAtom nests Expr at) u
      (λ b t e. reads_as (quoted_at at) (IsLeaf at) (IsAtom nests Expr at) (b ∷ t) (λ f x h. inl h) (reads_quoted at (b ∷ t)))
      (λ v. reads_head (λ b. nests && nat_eq 40 b) (group_at expr at) (word_at nests expr at) (IsAtom nests Expr at) v
      (λ b t e. reads_as (group_at expr at) (IsGrouped nests Expr at) (IsAtom nests Expr at) (b ∷ t) (λ f x h. inr (inr h)) (reads_group at (b ∷ t) (and_left nests (nat_eq 40 b) e)))
      (λ w. reads_as (word_at nests expr at) (IsWord nests expr Expr at) (IsAtom nests Expr at) w (word_is at) (reads_word nests expr Expr reads_expr some_expr at w))))

-- ---- prefixes

module _ (nests : Bool) (unary : ℕ → Read Tree) (Unary : Grammar Tree) (reads_one : nests ≡ true → (at : ℕ) (s : List ℕ) → Reads (unary at) (Unary at) s) (some_one : nests ≡ true → Inhabited Unary) (turns : ℕ) where
  abbrev pub Inner : Grammar Tree
  Inner at s t = IsPrefixed nests Unary at s t ⊎ WithBlanks (IsAtom nests (IsExpression Unary)) at s t

  minus_then : (at : ℕ) (a s : List ℕ) (b : ℕ) (t : Tree) → nests ≡ true → IsItem (nat_eq 45) a b → Wrapped (Negated at) (Unary (at + length a)) s t → Inner at (a ++ s) t
  minus_then at a s b t may_nest g (u, h, v) =
      let front : a ≡ 45 ∷ [] = g.1 ∙ ap (λ (c : ℕ). c ∷ []) (eq_means 45 b g.0) in
      let one : at + length a ≡ at + 1 = ap (λ (w : List ℕ). at + length w) front in
      inl (may_nest, s, u, inl (rw front refl, v), rw one at h)

  invert_then : (at : ℕ) (a s : List ℕ) (b : ℕ) (t : Tree) → nests ≡ true → IsItem (nat_eq 33) a b → Wrapped (Inverted at) (Unary (at + length a)) s t → Inner at (a ++ s) t
  invert_then at a s b t may_nest g (u, h, v) =
      let front : a ≡ 33 ∷ [] = g.1 ∙ ap (λ (c : ℕ). c ∷ []) (eq_means 33 b g.0) in
      let one : at + length a ≡ at + 1 = ap (λ (w : List ℕ). at + length w) front in
      inl (may_nest, s, u, inr (rw front refl, v), rw one at h)

  prefix_ends : (at at2 : ℕ) (mk : Tree → Tree) → nests ≡ true → (b : List ℕ) × (t : Tree) × Wrapped mk (Unary at2) b t
  prefix_ends at at2 mk may_nest = let w = some_one may_nest at2 in (w.0, mk w.1, (w.1, w.2, refl))

  reads_minus : (at : ℕ) (s : List ℕ) → nests ≡ true → Reads (prefixed_at 45 (Negated at) unary at) (Inner at) s
  reads_minus at s may_nest = reads_bind_at at (λ _. item (nat_eq 45)) (λ at2 _. bind (unary at2) (λ u. done (Negated at u))) (λ _. IsItem (nat_eq 45)) (λ at2 _. Wrapped (Negated at) (Unary at2)) Inner
      (record { then = λ a b c t g h. minus_then at a b c t may_nest g h; ends = λ a c g. prefix_ends at (at + length a) (Negated at) may_nest }) s
      (reads_item (nat_eq 45) (only 45 refl) s) (λ at2 c r. reads_wrapped (Negated at) (unary at2) (Unary at2) r (reads_one may_nest at2 r))

  reads_invert : (at : ℕ) (s : List ℕ) → nests ≡ true → Reads (prefixed_at 33 (Inverted at) unary at) (Inner at) s
  reads_invert at s may_nest = reads_bind_at at (λ _. item (nat_eq 33)) (λ at2 _. bind (unary at2) (λ u. done (Inverted at u))) (λ _. IsItem (nat_eq 33)) (λ at2 _. Wrapped (Inverted at) (Unary at2)) Inner
      (record { then = λ a b c t g h. invert_then at a b c t may_nest g h; ends = λ a c g. prefix_ends at (at + length a) (Inverted at) may_nest }) s
      (reads_item (nat_eq 33) (only 33 refl) s) (λ at2 c r. reads_wrapped (Inverted at) (unary at2) (Unary at2) r (reads_one may_nest at2 r))

  reads_inner : (at : ℕ) (s : List ℕ) → Reads (inner_at nests unary (expression_at unary turns) at) (Inner at) s
  unfolding inner_at
  reads_inner at s = reads_head (λ b. nests && nat_eq 45 b) (prefixed_at 45 (Negated at) unary at) _ (Inner at) s
      (λ b t e. reads_minus at (b ∷ t) (and_left nests (nat_eq 45 b) e))
      (λ u. reads_head (λ b. nests && nat_eq 33 b) (prefixed_at 33 (Inverted at) unary at) _ (Inner at) u
      (λ b t e. reads_invert at (b ∷ t) (and_left nests (nat_eq 33 b) e))
      (λ v. reads_as (then_blanks (atom_at nests (expression_at unary turns) at)) (WithBlanks (IsAtom nests (IsExpression Unary)) at) (Inner at) v (λ f x h. inr h)
      (reads_then_blanks (atom_at nests (expression_at unary turns) at) (IsAtom nests (IsExpression Unary)) at v
      (reads_atom nests (expression_at unary turns) (IsExpression Unary) (λ may_nest. reads_expression unary Unary (reads_one may_nest) (some_one may_nest) turns) (λ may_nest. some_expression unary Unary (reads_one may_nest) (some_one may_nest) turns) at v))))

  unary_joins : (at : ℕ) → PlacedSequence at (λ _. TheBlanks) (λ at2 _. Inner at2) (IsUnaryOf nests Unary)
  unary_joins at = record {
    then = λ w s x t g h. (w, s, refl, g.0, h);
    ends = λ w x g. (48 ∷ [], Number (at + length w) 0, inr (48 ∷ [], [], refl, tt, inl (zero_leaf (at + length w))));
  }

  pub reads_unary_of : (at : ℕ) (s : List ℕ) → Reads (unary_of_at nests unary turns at) (IsUnaryOf nests Unary at) s
  reads_unary_of at s = reads_bind_at at (λ _. blanks_at) (λ at2 _. inner_at nests unary (expression_at unary turns) at2) (λ _. TheBlanks) (λ at2 _. Inner at2) (IsUnaryOf nests Unary) (unary_joins at) s
      (reads_blanks s) (λ at2 x r. reads_inner at2 r)

zero_of : (nests : Bool) (Unary : Grammar Tree) → Inhabited (IsUnaryOf nests Unary)
zero_of nests Unary at = (48 ∷ [], Number (at + 0) 0, ([], 48 ∷ [], refl, tt, inr (48 ∷ [], [], refl, tt, inl (zero_leaf (at + 0)))))

pub some_unary : (depth : ℕ) → Inhabited (IsUnary depth)
some_unary zero = zero_of false IsNothing
some_unary (suc depth) = zero_of true (IsUnary depth)

not_false : false ≡ true → ⊥
not_false e = cc

pub reads_unary : (turns depth at : ℕ) (s : List ℕ) → Reads (unary_at turns depth at) (IsUnary depth at) s
reads_unary turns zero at s = reads_unary_of false nothing_at IsNothing (λ e. absurd (not_false e)) (λ e. absurd (not_false e)) turns at s
reads_unary turns (suc depth) at s = reads_unary_of true (unary_at turns depth) (IsUnary depth) (λ e. reads_unary turns depth) (λ e. some_unary depth) turns at s

-- ---- read again

-- how an atom begins
abbrev pub Start : ℕ → Type 0
Start b = IsDigit b ⊎ (IsLetter b ⊎ ((b ≡ 34) ⊎ (b ≡ 40)))

not_by : (c b : ℕ) (v : Bool) → nat_eq c b ≡ v → is_digit c ≡ false → is_letter c ≡ false → nat_eq 34 c ≡ false → nat_eq 40 c ≡ false → Start b → v ≡ false
not_by c b false e d l q g h = refl
not_by c b true e d l q g (inl h) = let same = eq_means c b e in let t : is_digit c ≡ true = rw (← same) (means_digit b h) in absurd cc
not_by c b true e d l q g (inr (inl h)) = let same = eq_means c b e in let t : is_letter c ≡ true = rw (← same) (letter_test b h) in absurd cc
not_by c b true e d l q g (inr (inr (inl h))) = let same = eq_means c b e in let t : nat_eq 34 c ≡ true = rw (← same, h) refl in absurd cc
not_by c b true e d l q g (inr (inr (inr h))) = let same = eq_means c b e in let t : nat_eq 40 c ≡ true = rw (← same, h) refl in absurd cc

pub start_not : (c b : ℕ) → is_digit c ≡ false → is_letter c ≡ false → nat_eq 34 c ≡ false → nat_eq 40 c ≡ false → Start b → nat_eq c b ≡ false
start_not c b d l q g h = not_by c b (nat_eq c b) refl d l q g h

pub name_start : (s : List ℕ) → IsName s → (b : ℕ) × (w : List ℕ) × (s ≡ b ∷ w) × IsLetter b
name_start [] h = absurd h
name_start (b ∷ s) h = (b, s, refl, h.0)

pub number_start : (most : ℕ) (s : List ℕ) (n : ℕ) → IsNumber most s n → (b : ℕ) × (w : List ℕ) × (s ≡ b ∷ w) × IsDigit b
number_start most [] n h = absurd h
number_start most (b ∷ s) n (inl (e, f, v)) = (b, s, refl, (omega arith, omega arith))
number_start most (b ∷ s) n (inr (lo, hi, d, l, v)) = (b, s, refl, (omega arith, hi))

leaf_start : (at : ℕ) (s : List ℕ) (t : Tree) → IsLeaf at s t → (b : ℕ) × (w : List ℕ) × (s ≡ b ∷ w) × Start b
leaf_start at s (Number p n) (e, h) = let k = number_start 17 s n h in (k.0, k.1, k.2, inl k.3)
leaf_start at s (Dice p g) (e, c) = let k = number_start 8 c.count g.count c.count-is in (k.0, k.1 ++ (100 ∷ c.die), c.parts ∙ ap (λ (w : List ℕ). w ++ (100 ∷ c.die)) k.2, inl k.3)
leaf_start at s (Quoted p m) (e, (a, q, h)) = (34, a ++ (34 ∷ []), q, inr (inr (inl refl)))
leaf_start at s (Name p x) (e, f, h) = let k = name_start x h in (k.0, k.1, f ∙ k.2, inr (inl k.3))
leaf_start at s (Call0 p f) h = absurd h
leaf_start at s (Call1 p f x) h = absurd h
leaf_start at s (Call2 p f x y) h = absurd h
leaf_start at s (Call3 p f x y z) h = absurd h
leaf_start at s (Negated p u) h = absurd h
leaf_start at s (Inverted p u) h = absurd h
leaf_start at s (Binary p o x y) h = absurd h
leaf_start at s (Assigned p x u) h = absurd h

function_start : (f : Function) (s z : List ℕ) → s ≡ function_name f ++ z → (b : ℕ) × (w : List ℕ) × (s ≡ b ∷ w) × IsLetter b
function_start f s z e = let k = name_start (function_name f) (name_is f) in (k.0, k.1 ++ z, e ∙ ap (λ (w : List ℕ). w ++ z) k.2, k.3)

pub call_start : (nests : Bool) (Expr : Grammar Tree) (at : ℕ) (s : List ℕ) (t : Tree) → IsCall nests Expr at s t → (b : ℕ) × (w : List ℕ) × (s ≡ b ∷ w) × IsLetter b
call_start nests Expr at s (Call0 p f) (pl, ar, e) = function_start f s (40 ∷ (41 ∷ [])) e
call_start nests Expr at s (Call1 p f x) (nn, pl, ar, a, e, h) = function_start f s (40 ∷ (a ++ (41 ∷ []))) e
call_start nests Expr at s (Call2 p f x y) (nn, pl, ar, a, b, e, h, g) = function_start f s (40 ∷ (a ++ (44 ∷ (b ++ (41 ∷ []))))) e
call_start nests Expr at s (Call3 p f x y z) (nn, pl, ar, a, b, c, e, h, g, k) = function_start f s (40 ∷ (a ++ (44 ∷ (b ++ (44 ∷ (c ++ (41 ∷ []))))))) e
call_start nests Expr at s (Number p n) h = absurd h
call_start nests Expr at s (Dice p g) h = absurd h
call_start nests Expr at s (Quoted p m) h = absurd h
call_start nests Expr at s (Name p x) h = absurd h
call_start nests Expr at s (Negated p u) h = absurd h
call_start nests Expr at s (Inverted p u) h = absurd h
call_start nests Expr at s (Binary p o x y) h = absurd h
call_start nests Expr at s (Assigned p x u) h = absurd h

pub atom_start : (nests : Bool) (Expr : Grammar Tree) (at : ℕ) (s : List ℕ) (t : Tree) → IsAtom nests Expr at s t → (b : ℕ) × (w : List ℕ) × (s ≡ b ∷ w) × Start b
atom_start nests Expr at s t (inl h) = leaf_start at s t h
atom_start nests Expr at s t (inr (inl h)) = let k = call_start nests Expr at s t h in (k.0, k.1, k.2, inr (inl k.3))
atom_start nests Expr at s t (inr (inr (nn, a, e, h))) = (40, a ++ (41 ∷ []), e, inr (inr (inr refl)))

pub and_false : (v : Bool) → v && false ≡ false
and_false true = refl
and_false false = refl

letter_by : (c b : ℕ) (v : Bool) → nat_eq c b ≡ v → is_letter c ≡ false → IsLetter b → v ≡ false
letter_by c b false e l h = refl
letter_by c b true e l h = let same = eq_means c b e in let t : is_letter c ≡ true = rw (← same) (letter_test b h) in absurd cc

not_letter_byte : (c b : ℕ) → is_letter c ≡ false → IsLetter b → nat_eq c b ≡ false
not_letter_byte c b l h = letter_by c b (nat_eq c b) refl l h

pub start_no_blank : (b : ℕ) → Start b → is_blank b ≡ false
start_no_blank b (inl h) = grind (arith, nat_tests)
start_no_blank b (inr (inl h)) = grind (arith, nat_tests)
start_no_blank b (inr (inr (inl h))) = rw h refl
start_no_blank b (inr (inr (inr h))) = rw h refl

module _ (nests : Bool) (expr : ℕ → Read Tree) (Expr : Grammar Tree) (stops : ℕ → Bool) (close : stops 41 ≡ false) (comma : stops 44 ≡ false) (turns : ℕ)
    (again : nests ≡ true → (at : ℕ) (b z : List ℕ) (t : Tree) → Expr at b t → Free stops z → length b < turns → expr at (b ++ z) ≡ (Some t, z)) where
  digit_route : (at b : ℕ) (w : List ℕ) → IsDigit b → atom_at nests expr at (b ∷ w) ≡ number_or_dice_at at (b ∷ w)
  unfolding atom_at
  digit_route at b w h = let d = means_digit b h in rw d refl

  letter_route : (at b : ℕ) (w : List ℕ) → IsLetter b → atom_at nests expr at (b ∷ w) ≡ word_at nests expr at (b ∷ w)
  unfolding atom_at
  letter_route at b w h =
      let d = letter_no_digit b h in
      let q = not_letter_byte 34 b refl h in
      let g = not_letter_byte 40 b refl h in
      rw (d, q, g, and_false nests) refl

  number_atom : (at n : ℕ) (s r : List ℕ) → IsNumber 17 s n → Free is_name_byte r → atom_at nests expr at (s ++ r) ≡ (Some (Number at n), r)
  number_atom at n s r h free =
      let k = number_start 17 s n h in
      let e = k.2 in
      let p : s ++ r ≡ k.0 ∷ (k.1 ++ r) = ap (λ (w : List ℕ). w ++ r) e in
      let q = number_again at n s r h free in
      rw p (digit_route at k.0 (k.1 ++ r) k.3 ∙ rw p at q)

  dice_atom : (at : ℕ) (s r : List ℕ) (g : Group) → IsCounted s g → Free is_name_byte r → atom_at nests expr at (s ++ r) ≡ (Some (Dice at g), r)
  dice_atom at s r g c free =
      let k = number_start 8 c.count g.count c.count-is in
      let e : s ≡ k.0 ∷ (k.1 ++ (100 ∷ c.die)) = c.parts ∙ ap (λ (w : List ℕ). w ++ (100 ∷ c.die)) k.2 in
      let p : s ++ r ≡ k.0 ∷ ((k.1 ++ (100 ∷ c.die)) ++ r) = ap (λ (w : List ℕ). w ++ r) e in
      let q = dice_again at s r g c free in
      rw p (digit_route at k.0 ((k.1 ++ (100 ∷ c.die)) ++ r) k.3 ∙ rw p at q)

  quoted_atom : (at : ℕ) (s r m : List ℕ) → IsQuoted s m → atom_at nests expr at (s ++ r) ≡ (Some (Quoted at m), r)
  unfolding atom_at
  quoted_atom at s r m (a, e, h) = let q = quoted_again at s r m (a, e, h) in rw e (rw e at q)

  name_atom : (at : ℕ) (s r : List ℕ) → IsName s → Free is_name_byte r → Free (nat_eq 40) r → atom_at nests expr at (s ++ r) ≡ (Some (Name at s), r)
  name_atom at s r h free no_bracket =
      let k = name_start s h in
      let p : s ++ r ≡ k.0 ∷ (k.1 ++ r) = ap (λ (w : List ℕ). w ++ r) k.2 in
      let q = name_again nests expr Expr at s r h free no_bracket in
      rw p (letter_route at k.0 (k.1 ++ r) k.3 ∙ rw p at q)

  leaf_again : (at : ℕ) (s r : List ℕ) (t : Tree) → IsLeaf at s t → Free is_name_byte r → Free (nat_eq 40) r → atom_at nests expr at (s ++ r) ≡ (Some t, r)
  leaf_again at s r (Number p n) (e, h) free no_bracket = rw e (number_atom at n s r h free)
  leaf_again at s r (Dice p g) (e, c) free no_bracket = rw e (dice_atom at s r g c free)
  leaf_again at s r (Quoted p m) (e, h) free no_bracket = rw e (quoted_atom at s r m h)
  leaf_again at s r (Name p x) (e, f, h) free no_bracket = rw (e, f) (name_atom at x r h free no_bracket)
  leaf_again at s r (Call0 p f) h free no_bracket = absurd h
  leaf_again at s r (Call1 p f x) h free no_bracket = absurd h
  leaf_again at s r (Call2 p f x y) h free no_bracket = absurd h
  leaf_again at s r (Call3 p f x y z) h free no_bracket = absurd h
  leaf_again at s r (Negated p u) h free no_bracket = absurd h
  leaf_again at s r (Inverted p u) h free no_bracket = absurd h
  leaf_again at s r (Binary p o x y) h free no_bracket = absurd h
  leaf_again at s r (Assigned p x u) h free no_bracket = absurd h

  grouped_again : (at : ℕ) (s r : List ℕ) (t : Tree) → IsGrouped nests Expr at s t → length s < turns → atom_at nests expr at (s ++ r) ≡ (Some t, r)
  unfolding atom_at group_at
  grouped_again at s r t (nn, a, e, h) lt =
      let len : length s ≡ suc (length a + 1) = ap length e ∙ ap suc (length-append a (41 ∷ [])) in
      let p : s ++ r ≡ 40 ∷ (a ++ (41 ∷ r)) = ap (λ (w : List ℕ). w ++ r) e ∙ ap (λ (w : List ℕ). 40 ∷ w) (append_assoc a (41 ∷ []) r) in
      let k = argument_again expr 40 at (λ at2 u. closed u) a (41 ∷ r) t refl (again nn (at + 1) a (41 ∷ r) t h close (omega arith)) in
      rw (p, nn) k

  pub atom_again : (at : ℕ) (s r : List ℕ) (t : Tree) → IsAtom nests Expr at s t → Free is_name_byte r → Free (nat_eq 40) r → length s < turns → atom_at nests expr at (s ++ r) ≡ (Some t, r)
  atom_again at s r t (inl h) free no_bracket lt = leaf_again at s r t h free no_bracket
  atom_again at s r t (inr (inl h)) free no_bracket lt =
      let k = call_start nests Expr at s t h in
      let p : s ++ r ≡ k.0 ∷ (k.1 ++ r) = ap (λ (w : List ℕ). w ++ r) k.2 in
      let q = call_again nests expr Expr stops close comma turns again at s r t h lt in
      rw p (letter_route at k.0 (k.1 ++ r) k.3 ∙ rw p at q)
  atom_again at s r t (inr (inr h)) free no_bracket lt = grouped_again at s r t h lt

-- blanks put nothing before a test that isn't theirs
pub blanks_free : (test : ℕ → Bool) (v r : List ℕ) → test 32 ≡ false → AreBlanks v → Free test r → Free test (v ++ r)
blanks_free test [] r e h free = free
blanks_free test (b ∷ v) r e h free = let k = h.0 in rw k e

module _ (nests : Bool) (unary : ℕ → Read Tree) (Unary : Grammar Tree) (turns : ℕ)
    (back_one : nests ≡ true → (at : ℕ) (b r : List ℕ) (t : Tree) → Unary at b t → Free is_inner r → length b < turns → unary at (b ++ r) ≡ (Some t, r))
    (no_equals : nests ≡ true → (at : ℕ) (b r : List ℕ) (t : Tree) → Unary at b t → Free (nat_eq 61) (b ++ r)) where
  prefixed_again : (at : ℕ) (s r : List ℕ) (t : Tree) → IsPrefixed nests Unary at s t → Free is_inner r → length s < turns → inner_at nests unary (expression_at unary turns) at (s ++ r) ≡ (Some t, r)
  unfolding inner_at
  prefixed_again at s r t (nn, a, u, inl (e, v), h) free lt =
      let len : length s ≡ suc (length a) = ap length e in
      let k = back_one nn (at + 1) a r u h free (omega arith) in
      let q = bind_at_is at (λ _. item (nat_eq 45)) (λ at2 _. bind (unary at2) (λ x. done (Negated at x))) (45 ∷ (a ++ r)) (45 ∷ []) (a ++ r) 45 refl refl in
      rw (e, v, nn) (q ∙ rw k refl)
  prefixed_again at s r t (nn, a, u, inr (e, v), h) free lt =
      let len : length s ≡ suc (length a) = ap length e in
      let k = back_one nn (at + 1) a r u h free (omega arith) in
      let q = bind_at_is at (λ _. item (nat_eq 33)) (λ at2 _. bind (unary at2) (λ x. done (Inverted at x))) (33 ∷ (a ++ r)) (33 ∷ []) (a ++ r) 33 refl refl in
      rw (e, v, nn) (q ∙ rw k refl)

  atom_blanks : (at : ℕ) (s r : List ℕ) (t : Tree) → IsAtomBlanks nests (IsExpression Unary) at s t → Free is_inner r → length s < turns → then_blanks (atom_at nests (expression_at unary turns) at) (s ++ r) ≡ (Some t, r)
  atom_blanks at s r t (a, v, e, bl, h) free lt =
      let len : length s ≡ length a + length v = ap length e ∙ length-append a v in
      let p : s ++ r ≡ a ++ (v ++ r) = ap (λ (w : List ℕ). w ++ r) e ∙ append_assoc a v r in
      let names = free_left is_name_byte (nat_eq 40) r (free_right is_blank (λ b. is_name_byte b || nat_eq 40 b) r free) in
      let bracket = free_right is_name_byte (nat_eq 40) r (free_right is_blank (λ b. is_name_byte b || nat_eq 40 b) r free) in
      let k = atom_again nests (expression_at unary turns) (IsExpression Unary) is_expression refl refl turns (λ nn at2 b z u g f l. expression_again unary Unary turns (back_one nn) (no_equals nn) at2 b z u g f l)
      at a (v ++ r) t h (blanks_free is_name_byte v r refl bl names) (blanks_free (nat_eq 40) v r refl bl bracket) (omega arith) in
      let l = blanks_back v r bl (free_left is_blank (λ b. is_name_byte b || nat_eq 40 b) r free) in
      rw (p, k, l) refl

  atom_route : (at b : ℕ) (w : List ℕ) → Start b → inner_at nests unary (expression_at unary turns) at (b ∷ w) ≡ then_blanks (atom_at nests (expression_at unary turns) at) (b ∷ w)
  unfolding inner_at
  atom_route at b w h =
      let m = start_not 45 b refl refl refl refl h in
      let n = start_not 33 b refl refl refl refl h in
      rw (m, n, and_false nests) refl

  inner_again : (at : ℕ) (s r : List ℕ) (t : Tree) → IsPrefixed nests Unary at s t ⊎ IsAtomBlanks nests (IsExpression Unary) at s t → Free is_inner r → length s < turns → inner_at nests unary (expression_at unary turns) at (s ++ r) ≡ (Some t, r)
  inner_again at s r t (inl h) free lt = prefixed_again at s r t h free lt
  inner_again at s r t (inr (a, v, e, bl, h)) free lt =
      let k = atom_start nests (IsExpression Unary) at a t h in
      let p : s ++ r ≡ k.0 ∷ (k.1 ++ (v ++ r)) = ap (λ (w : List ℕ). w ++ r) (e ∙ ap (λ (w : List ℕ). w ++ v) k.2) ∙ ap (λ (w : List ℕ). k.0 ∷ w) (append_assoc k.1 v r) in
      let q = atom_blanks at s r t (a, v, e, bl, h) free lt in
      rw p (atom_route at k.0 (k.1 ++ (v ++ r)) k.3 ∙ rw p at q)

  inner_starts : (test : ℕ → Bool) (at : ℕ) (s r : List ℕ) (t : Tree) → test 45 ≡ false → test 33 ≡ false → ((b : ℕ) → Start b → test b ≡ false) → IsPrefixed nests Unary at s t ⊎ IsAtomBlanks nests (IsExpression Unary) at s t → Free test (s ++ r)
  inner_starts test at s r t m n start (inl (nn, a, u, inl (e, v), h)) = rw e m
  inner_starts test at s r t m n start (inl (nn, a, u, inr (e, v), h)) = rw e n
  inner_starts test at s r t m n start (inr (a, v, e, bl, h)) =
      let k = atom_start nests (IsExpression Unary) at a t h in
      let p : s ++ r ≡ k.0 ∷ (k.1 ++ (v ++ r)) = ap (λ (w : List ℕ). w ++ r) (e ∙ ap (λ (w : List ℕ). w ++ v) k.2) ∙ ap (λ (w : List ℕ). k.0 ∷ w) (append_assoc k.1 v r) in
      rw p (start k.0 k.3)

  pub unary_of_again : (at : ℕ) (s r : List ℕ) (t : Tree) → IsUnaryOf nests Unary at s t → Free is_inner r → length s < turns → unary_of_at nests unary turns at (s ++ r) ≡ (Some t, r)
  unary_of_again at s r t (w, b, e, bl, h) free lt =
      let len : length s ≡ length w + length b = ap length e ∙ length-append w b in
      let p : s ++ r ≡ w ++ (b ++ r) = ap (λ (z : List ℕ). z ++ r) e ∙ append_assoc w b r in
      let k = blanks_back w (b ++ r) bl (inner_starts is_blank (at + length w) b r t refl refl start_no_blank h) in
      bind_at_is at (λ _. blanks_at) (λ at2 _. inner_at nests unary (expression_at unary turns) at2) (s ++ r) w (b ++ r) w (rw p k) p
      ∙ inner_again (at + length w) b r t h free (omega arith)

  pub unary_of_no_equals : (at : ℕ) (s r : List ℕ) (t : Tree) → IsUnaryOf nests Unary at s t → Free (nat_eq 61) (s ++ r)
  unary_of_no_equals at s r t (w, b, e, bl, h) =
      let p : s ++ r ≡ w ++ (b ++ r) = ap (λ (z : List ℕ). z ++ r) e ∙ append_assoc w b r in
      rw p (blanks_free (nat_eq 61) w (b ++ r) refl bl (inner_starts (nat_eq 61) (at + length w) b r t refl refl (λ c g. start_not 61 c refl refl refl refl g) h))

pub unary_no_equals : (depth at : ℕ) (s r : List ℕ) (t : Tree) → IsUnary depth at s t → Free (nat_eq 61) (s ++ r)
unary_no_equals zero at s r t h = unary_of_no_equals false nothing_at IsNothing 0 (λ e. absurd (not_false e)) (λ e. absurd (not_false e)) at s r t h
unary_no_equals (suc depth) at s r t h = unary_of_no_equals true (unary_at 0 depth) (IsUnary depth) 0 (λ e at2 b q u g f lt. absurd (omega arith)) (λ e. unary_no_equals depth) at s r t h

pub unary_again : (turns depth at : ℕ) (s r : List ℕ) (t : Tree) → IsUnary depth at s t → Free is_inner r → length s < turns → unary_at turns depth at (s ++ r) ≡ (Some t, r)
unary_again turns zero at s r t h free lt = unary_of_again false nothing_at IsNothing turns (λ e. absurd (not_false e)) (λ e. absurd (not_false e)) at s r t h free lt
unary_again turns (suc depth) at s r t h free lt = unary_of_again true (unary_at turns depth) (IsUnary depth) turns (λ e. unary_again turns depth) (λ e. unary_no_equals depth) at s r t h free lt

-- an expression with so many nested
pub reads_expr : (depth turns at : ℕ) (s : List ℕ) → Reads (expr_at depth turns at) (IsExpr depth at) s
reads_expr depth turns at s = reads_expression (unary_at turns depth) (IsUnary depth) (reads_unary turns depth) (some_unary depth) turns at s

pub some_expr : (depth : ℕ) → Inhabited (IsExpr depth)
some_expr depth = some_expression (unary_at 0 depth) (IsUnary depth) (reads_unary 0 depth) (some_unary depth) 0

pub expr_again : (depth turns at : ℕ) (s r : List ℕ) (t : Tree) → IsExpr depth at s t → Free is_expression r → length s < turns → expr_at depth turns at (s ++ r) ≡ (Some t, r)
expr_again depth turns at s r t h free lt = expression_again (unary_at turns depth) (IsUnary depth) turns (unary_again turns depth) (unary_no_equals depth) at s r t h free lt
