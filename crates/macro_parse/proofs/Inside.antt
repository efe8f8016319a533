-- Unaries and atoms, as the code reads them.
use Rattle.std.proofs.Common.{◌≡◌, ℕ, zero, suc, ◌+◌, ◌-◌, ◌<◌, ◌≤◌, ◌⊎◌, inl, inr, Bool, true, false, ◌&&◌, List, [], ◌∷◌, length, Some, None, Ok, Err, refl, ◌∙◌, arith}
use Rattle.std.specs.Prelude.{Result, IfOk, IfErr, nat_eq}
use Rattle.std.proofs.lemmas.Bool.Decides.{nat_tests}
use Rattle.reading.specs.Reading.{Read, done, bind, item}
use Rattle.reading.specs.Placed.{bind_at}
use Rattle.reading.specs.Number.{is_digit}
use Rattle.macro_parse.specs.declared.nodes.Node.{Node}
use Rattle.macro_parse.specs.declared.nodes.Node.TheVariants.{Negated as NegatedNode, Inverted as InvertedNode}
use Rattle.macro_parse.specs.declared.reader.Stop.{Stop}
use Rattle.macro_parse.specs.declared.reader.Stop.TheVariants.{Off, Memory}
use Rattle.macro_parse.specs.declared.expressions.Sign.{Sign}
use Rattle.macro_parse.specs.declared.expressions.Sign.TheVariants.{Minus, Not}
use Rattle.macro_grammar.specs.Tree.{Tree, Negated, Inverted}
use Rattle.macro_grammar.specs.Readers.{blanks_at, name_at, number_or_dice_at, quoted_at, argument_at, closed, word_at, group_at, atom_at, then_blanks, prefixed_at, inner_at, expression_at, unary_at, expr_at}
use Rattle.macro_parse.specs.Flat.{Kept, Puts, Finds, place}
use Rattle.macro_parse.specs.Levels.{nests, nested_at}
use Rattle.macro_parse.specs.Found.{Prefixes, Argues}
use Rattle.macro_parse.proofs.FlatTrees.{put_negated, put_inverted}
use Rattle.macro_parse.proofs.Finding.{finds_kept, finds_as, finds_then, stops_then, finds_blanks, stops_blanks}
use Rattle.macro_parse.proofs.Scans.{takes_at, took, left, item_none}
use Rattle.macro_grammar.proofs.OptionWords.{same_byte}

-- ---- unaries

unary_blanks : (turns depth at : ℕ) (s w r : List ℕ) → blanks_at s ≡ (Some w, r)
    → unary_at turns depth at s ≡ inner_at (nests depth) (nested_at turns depth) (expression_at (nested_at turns depth) turns) (at + (length s - length r)) r
unary_blanks turns zero at s w r e = rw e refl
unary_blanks turns (suc depth) at s w r e = rw e refl

abbrev pub inner_of : ℕ → ℕ → ℕ → Read Tree
inner_of depth turns = inner_at (nests depth) (nested_at turns depth) (expression_at (nested_at turns depth) turns)

abbrev pub atom_of : ℕ → ℕ → ℕ → Read Tree
atom_of depth turns = atom_at (nests depth) (expression_at (nested_at turns depth) turns)

abbrev pub word_of : ℕ → ℕ → ℕ → Read Tree
word_of depth turns = word_at (nests depth) (expression_at (nested_at turns depth) turns)

pub unary_finds : (Shown : ℕ → Tree → Type 0) (depth end : ℕ) (found : Result ℕ Stop) (s r1 r2 : List ℕ) → length s ≤ end → length r1 ≤ length s → (w : List ℕ) × (blanks_at s ≡ (Some w, r1))
    → Finds Shown (λ turns. inner_of depth turns (place end r1)) found r1 r2 → Finds Shown (λ turns. unary_at turns depth (place end s)) found s r2
unary_finds Shown depth end found s r1 r2 room shrinks (w, e) h =
    finds_as Shown (λ turns. inner_of depth turns (place end r1)) (λ turns. unary_at turns depth (place end s)) found r1 s r2 shrinks
    (λ turns. let d : place end s + (length s - length r1) ≡ place end r1 = omega arith in unary_blanks turns depth (place end s) s w r1 e ∙ rw d refl) h

inner_passes : (depth at : ℕ) (s r : List ℕ) (unary expr : ℕ → Read Tree) → Prefixes depth s None r → inner_at (nests depth) unary expr at s ≡ then_blanks (atom_at (nests depth) expr at) s
unfolding inner_at
inner_passes depth at s r unary expr h = h.1 (prefixed_at 45 (Negated at) unary at) (prefixed_at 33 (Inverted at) unary at) (then_blanks (atom_at (nests depth) expr at))

module _ (Shown : ℕ → Tree → Type 0) (depth end : ℕ) where
  pub inner_atom : (v : ℕ) (s r1 r2 r3 : List ℕ) → Prefixes depth s None r1 → (w : List ℕ) × (blanks_at r2 ≡ (Some w, r3))
      → Finds Shown (λ turns. atom_of depth turns (place end r1)) (Ok v) r1 r2 → Finds Shown (λ turns. inner_of depth turns (place end s)) (Ok v) s r3
  inner_atom v s r1 r2 r3 none behind h =
      let e = none.0 in
      let here = rw e at h in
      finds_as Shown (λ turns. then_blanks (atom_of depth turns (place end s))) (λ turns. inner_of depth turns (place end s)) (Ok v) s s r3 (omega arith)
      (λ turns. inner_passes depth (place end s) s r1 (nested_at turns depth) (expression_at (nested_at turns depth) turns) none)
      (finds_blanks Shown (λ turns. atom_of depth turns (place end s)) v s r2 r3 behind here)

  pub inner_atom_stops : (stop : Stop) (s r1 r2 : List ℕ) → Prefixes depth s None r1
      → Finds Shown (λ turns. atom_of depth turns (place end r1)) (Err stop) r1 r2 → Finds Shown (λ turns. inner_of depth turns (place end s)) (Err stop) s r2
  inner_atom_stops Off s r1 r2 none h =
      let e = none.0 in
      let here = rw e at h in
      finds_as Shown (λ turns. then_blanks (atom_of depth turns (place end s))) (λ turns. inner_of depth turns (place end s)) (Err Off) s s r2 (omega arith)
      (λ turns. inner_passes depth (place end s) s r1 (nested_at turns depth) (expression_at (nested_at turns depth) turns) none)
      (stops_blanks Shown (λ turns. atom_of depth turns (place end s)) Off s r2 here)
  inner_atom_stops Memory s r1 r2 none h = tt

inner_minus : (turns depth d at1 at2 : ℕ) (s r : List ℕ) → depth ≡ suc d → s ≡ 45 ∷ r → at1 + 1 ≡ at2 → inner_of depth turns at1 s ≡ bind (unary_at turns d at2) (λ u. done (Negated at1 u)) r
unfolding inner_at
inner_minus turns depth d at1 at2 s r n e p = let m : at1 + (length (45 ∷ r) - length r) ≡ at2 = omega arith in rw (n, e, m) refl

inner_not : (turns depth d at1 at2 : ℕ) (s r : List ℕ) → depth ≡ suc d → s ≡ 33 ∷ r → at1 + 1 ≡ at2 → inner_of depth turns at1 s ≡ bind (unary_at turns d at2) (λ u. done (Inverted at1 u)) r
unfolding inner_at
inner_not turns depth d at1 at2 s r n e p = let m : at1 + (length (33 ∷ r) - length r) ≡ at2 = omega arith in rw (n, e, m) refl

module _ (depth end : ℕ) (s r1 r2 : List ℕ) (room : length s ≤ end) where
  pub sign_stops : (Shown Whole : ℕ → Tree → Type 0) (sign : Sign) (stop : Stop) → Prefixes depth s (Some sign) r1
      → Finds Shown (λ turns. unary_at turns (depth - 1) (place end r1)) (Err stop) r1 r2 → Finds Whole (λ turns. inner_of depth turns (place end s)) (Err stop) s r2
  sign_stops Shown Whole Minus Off (lt, e) h = λ turns more.
      let len : length s ≡ suc (length r1) = rw e refl in
      let k = h turns (omega arith) in
      inner_minus turns depth (depth - 1) (place end s) (place end r1) s r1 (omega arith) e (omega arith) ∙ rw k refl
  sign_stops Shown Whole Not Off (lt, e) h = λ turns more.
      let len : length s ≡ suc (length r1) = rw e refl in
      let k = h turns (omega arith) in
      inner_not turns depth (depth - 1) (place end s) (place end r1) s r1 (omega arith) e (omega arith) ∙ rw k refl
  sign_stops Shown Whole Minus Memory p h = tt
  sign_stops Shown Whole Not Memory p h = tt

  pub negated_found : (n0 n1 n2 : List Node) (at of : ℕ) (found : Result ℕ Stop) → Prefixes depth s (Some Minus) r1 → at ≡ place end s
      → Finds (Puts n0 n1) (λ turns. unary_at turns (depth - 1) (place end r1)) (Ok of) r1 r2 → IfOk found (λ i. Kept n1 n2 i (NegatedNode at of)) → IfErr found (λ stop. stop ≡ Memory)
      → Finds (Puts n0 n2) (λ turns. inner_of depth turns (place end s)) found s r2
  negated_found n0 n1 n2 at of found (lt, e) here h k m =
      finds_kept n1 n2 (NegatedNode at of) (Puts n0 n2) (λ turns. inner_of depth turns (place end s)) found s r2 (Negated (place end s) h.0) k m
      (λ i kept. rw here at (put_negated n0 n1 n2 i at of h.0 h.1 kept))
      (λ turns more.
      let len : length s ≡ suc (length r1) = rw e refl in
      let f = h.2 turns (omega arith) in
      inner_minus turns depth (depth - 1) (place end s) (place end r1) s r1 (omega arith) e (omega arith) ∙ rw f refl)

  pub inverted_found : (n0 n1 n2 : List Node) (at of : ℕ) (found : Result ℕ Stop) → Prefixes depth s (Some Not) r1 → at ≡ place end s
      → Finds (Puts n0 n1) (λ turns. unary_at turns (depth - 1) (place end r1)) (Ok of) r1 r2 → IfOk found (λ i. Kept n1 n2 i (InvertedNode at of)) → IfErr found (λ stop. stop ≡ Memory)
      → Finds (Puts n0 n2) (λ turns. inner_of depth turns (place end s)) found s r2
  inverted_found n0 n1 n2 at of found (lt, e) here h k m =
      finds_kept n1 n2 (InvertedNode at of) (Puts n0 n2) (λ turns. inner_of depth turns (place end s)) found s r2 (Inverted (place end s) h.0) k m
      (λ i kept. rw here at (put_inverted n0 n1 n2 i at of h.0 h.1 kept))
      (λ turns more.
      let len : length s ≡ suc (length r1) = rw e refl in
      let f = h.2 turns (omega arith) in
      inner_not turns depth (depth - 1) (place end s) (place end r1) s r1 (omega arith) e (omega arith) ∙ rw f refl)

-- ---- atoms

pub atom_digit : (nest : Bool) (expr : ℕ → Read Tree) (at b : ℕ) (s t : List ℕ) → s ≡ b ∷ t → 48 ≤ b → b ≤ 57 → atom_at nest expr at s ≡ number_or_dice_at at s
unfolding atom_at
atom_digit nest expr at b s t e lo hi = let k : is_digit b ≡ true = grind (arith, nat_tests) in rw (e, k) refl

pub atom_quote : (nest : Bool) (expr : ℕ → Read Tree) (at b : ℕ) (s t : List ℕ) → s ≡ b ∷ t → b ≡ 34 → atom_at nest expr at s ≡ quoted_at at s
unfolding atom_at
atom_quote nest expr at b s t e same = rw (e, same) refl

pub atom_group : (depth d turns at b : ℕ) (s t : List ℕ) → s ≡ b ∷ t → b ≡ 40 → depth ≡ suc d → atom_of depth turns at s ≡ group_at (expr_at d turns) at s
unfolding atom_at
atom_group depth d turns at b s t e same n = rw (n, e, same) refl

pub atom_word : (nest : Bool) (expr : ℕ → Read Tree) (at b : ℕ) (s t : List ℕ) → s ≡ b ∷ t → is_digit b ≡ false → nat_eq 34 b ≡ false → nest && nat_eq 40 b ≡ false → atom_at nest expr at s ≡ word_at nest expr at s
unfolding atom_at
atom_word nest expr at b s t e d q p = rw (e, d, q, p) refl

pub atom_end : (nest : Bool) (expr : ℕ → Read Tree) (at : ℕ) (s : List ℕ) → length s ≡ 0 → atom_at nest expr at s ≡ (None, s)
unfolding atom_at word_at name_at
atom_end nest expr at [] e = refl
atom_end nest expr at (b ∷ s) e = absurd (omega arith)

pub no_digit : (b : ℕ) → ((48 ≤ b) × (57 < b)) ⊎ (b < 48) → is_digit b ≡ false
no_digit b (inl (lo, lt)) = grind (arith, nat_tests)
no_digit b (inr lt) = grind (arith, nat_tests)

no_group_by : (depth b : ℕ) → (b ≡ 40 → ⊥) → nests depth && nat_eq 40 b ≡ false
no_group_by zero b h = refl
no_group_by (suc depth) b h = grind (arith, nat_tests)

pub no_group : (depth b : ℕ) → ((b ≡ 40) × (depth ≤ 0)) ⊎ (b ≡ 40 → ⊥) → nests depth && nat_eq 40 b ≡ false
no_group depth b (inl (same, le)) = let e : depth ≡ 0 = omega arith in rw e refl
no_group depth b (inr h) = no_group_by depth b h

-- ---- a separator and an expression

argument_is : {A : Type 0} (expr : ℕ → Read Tree) (separator at1 at2 : ℕ) (s t : List ℕ) (k : ℕ → Tree → Read A) → s ≡ separator ∷ t → at1 + 1 ≡ at2 → argument_at expr separator at1 k s ≡ bind_at at2 expr k t
argument_is expr separator at1 at2 s t k e p = let q = same_byte separator in let m : at1 + (length (separator ∷ t) - length t) ≡ at2 = omega arith in rw (e, q, m) refl

argument_none : {A : Type 0} (expr : ℕ → Read Tree) (separator at : ℕ) (s r : List ℕ) (k : ℕ → Tree → Read A) → item (nat_eq separator) s ≡ (None, r) → argument_at expr separator at k s ≡ (None, r)
argument_none expr separator at s r k e = rw e refl

module _ {W U : Type 0} (Whole : W → U → Type 0) (k : ℕ → ℕ → Tree → Read U) (separator depth end : ℕ) (s r1 : List ℕ) (n0 n1 : List Node) (room : length s ≤ end) where
  pub argument_finds : (i : ℕ) (found : Result W Stop) (r2 : List ℕ) → Argues separator depth end n0 n1 (Ok i) s r1
      → ((x : Tree) → Puts n0 n1 i x → Finds Whole (λ turns. k turns (place end r1) x) found r1 r2)
      → Finds Whole (λ turns. argument_at (expr_at depth turns) separator (place end s) (k turns)) found s r2
  argument_finds i found r2 (inl (t, e, shrinks, h)) g =
      let len : length s ≡ suc (length t) = rw e refl in
      finds_as Whole (λ turns. bind_at (place end t) (expr_at depth turns) (k turns)) (λ turns. argument_at (expr_at depth turns) separator (place end s) (k turns)) found t s r2 (omega arith)
      (λ turns. argument_is (expr_at depth turns) separator (place end s) (place end t) s t (k turns) e (omega arith))
      (finds_then (Puts n0 n1) Whole Whole (λ turns. expr_at depth turns) k end i found t r1 r2 (omega arith) shrinks h (g h.0 h.1) (λ w u z. z))
  argument_finds i found r2 (inr (bad, e)) g = absurd cc

  pub argument_stops : (stop : Stop) → Argues separator depth end n0 n1 (Err stop) s r1 → Finds Whole (λ turns. argument_at (expr_at depth turns) separator (place end s) (k turns)) (Err stop) s r1
  argument_stops stop (inl (t, e, shrinks, h)) =
      let len : length s ≡ suc (length t) = rw e refl in
      finds_as Whole (λ turns. bind_at (place end t) (expr_at depth turns) (k turns)) (λ turns. argument_at (expr_at depth turns) separator (place end s) (k turns)) (Err stop) t s r1 (omega arith)
      (λ turns. argument_is (expr_at depth turns) separator (place end s) (place end t) s t (k turns) e (omega arith))
      (stops_then (Puts n0 n1) Whole (λ turns. expr_at depth turns) k (place end t) stop t r1 h)
  argument_stops Off (inr (bad, e)) = λ turns lt. argument_none (expr_at depth turns) separator (place end s) s r1 (k turns) e
  argument_stops Memory (inr (bad, e)) = tt

-- ---- groups

pub close_none : {A : Type 0} (x : A) (s r : List ℕ) → item (nat_eq 41) s ≡ (None, r) → closed x s ≡ (None, r)
close_none x s r e = rw e refl

module _ (depth end : ℕ) (s r1 r2 : List ℕ) (n0 n1 : List Node) (room : length s ≤ end) where
  pub group_closed : (i : ℕ) → Argues 40 depth end n0 n1 (Ok i) s r1 → takes_at 41 r1 ≡ (Some true, r2) → Finds (Puts n0 n1) (λ turns. group_at (expr_at depth turns) (place end s)) (Ok i) s r2
  unfolding group_at
  group_closed i h e = argument_finds (Puts n0 n1) (λ turns at2 t. closed t) 40 depth end s r1 n0 n1 room i (Ok i) r2 h (λ x p. (x, p, λ turns lt. let f = took 41 r1 r2 e in rw f refl))

  pub group_open : (i : ℕ) → Argues 40 depth end n0 n1 (Ok i) s r1 → takes_at 41 r1 ≡ (Some false, r2) → Finds (Puts n0 n1) (λ turns. group_at (expr_at depth turns) (place end s)) (Err Off) s r2
  unfolding group_at
  group_open i h e = argument_finds (Puts n0 n1) (λ turns at2 t. closed t) 40 depth end s r1 n0 n1 room i (Err Off) r2 h (λ x p turns lt. let f = left 41 r1 r2 e in let g = f.0 in rw g (close_none x r1 r1 (item_none 41 r1 f.1)))

  pub group_stops : (stop : Stop) → Argues 40 depth end n0 n1 (Err stop) s r1 → Finds (Puts n0 n1) (λ turns. group_at (expr_at depth turns) (place end s)) (Err stop) s r1
  unfolding group_at
  group_stops stop h = argument_stops (Puts n0 n1) (λ turns at2 t. closed t) 40 depth end s r1 n0 n1 room stop h

pub not_same : (wanted b : ℕ) → (b ≡ wanted → ⊥) → nat_eq wanted b ≡ false
not_same wanted b h = grind (arith, nat_tests)
