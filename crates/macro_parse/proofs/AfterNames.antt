-- Statements by what stands behind their first name, as the code reads them.
use Rattle.std.proofs.Common.{◌≡◌, ℕ, suc, ◌+◌, ◌-◌, ◌<◌, ◌≤◌, Bool, true, false, List, [], ◌∷◌, length, Some, None, Ok, Err, refl, subst, ◌∙◌, arith}
use Rattle.std.specs.Prelude.{Result, IfOk, IfErr, nat_eq}
use Rattle.std.specs.Global.{Vec}
use Rattle.reading.specs.Reading.{Read, done, bind, on_head}
use Rattle.reading.proofs.Pairs.{Free}
use Rattle.macro_parse.specs.declared.nodes.Node.{Node}
use Rattle.macro_parse.specs.declared.nodes.Node.TheVariants.{Name as NameNode, Binary as BinaryNode, Assigned as AssignedNode}
use Rattle.macro_grammar.specs.declared.words.Operator.TheVariants.{Equal}
use Rattle.macro_grammar.specs.declared.words.Function.{Function}
use Rattle.macro_parse.specs.declared.reader.Stop.{Stop}
use Rattle.macro_parse.specs.declared.reader.Stop.TheVariants.{Off, Memory}
use Rattle.macro_grammar.specs.Tree.{Tree, Number, Dice, Quoted, Name, Call0, Call1, Call2, Call3, Negated, Inverted, Binary, Assigned}
use Rattle.macro_grammar.specs.Grammar.{arity}
use Rattle.macro_grammar.specs.Readers.{blanks_at, is_letter, arguments_at, then_blanks, sum_at, expression_at, expression_from, equal_from, after_name, after_word, statement_at, unary_at, expr_at}
use Rattle.macro_parse.specs.Flat.{Shows, Kept, Puts, PutsCall, Grows, IsNoName, Finds, place}
use Rattle.macro_parse.specs.Levels.{nests, nested_at, ands_from, named_at, HeadIs}
use Rattle.macro_parse.specs.Found.{FindsName, Calls}
use Rattle.macro_parse.proofs.FlatTrees.{put_name, put_binary, put_assigned, puts_grows, grows_grows}
use Rattle.macro_parse.proofs.Finding.{finds_kept, finds_as, finds_then, stops_then, finds_weaker, finds_blanks, stops_blanks}
use Rattle.macro_parse.proofs.Scans.{takes_at, took, left}
use Rattle.macro_parse.proofs.Inside.{word_of}
use Rattle.macro_parse.proofs.CallsFound.{word_is, word_stops, word_calls}

pub head_true : {A : Type 0} (test : ℕ → Bool) (p q : Read A) (s : List ℕ) → HeadIs test s true → on_head test p q s ≡ p s
head_true test p q [] h = absurd cc
head_true test p q (b ∷ s) h = rw h refl

pub head_false : {A : Type 0} (test : ℕ → Bool) (p q : Read A) (s : List ℕ) → HeadIs test s false → on_head test p q s ≡ q s
head_false test p q [] h = refl
head_false test p q (b ∷ s) h = rw h refl

-- ---- behind "=="

pub equal_found : (depth end end1 at i left right : ℕ) (found : Result ℕ Stop) (s r1 r2 : List ℕ) (n0 n1 n2 n3 : List Node) (x : Tree) → length s ≤ end → length r1 ≤ length s → end1 ≡ end → Shows n0 left x
    → Finds (Puts n0 n1) (λ turns. sum_at (unary_at turns depth) turns (place end s)) (Ok right) s r1 → Kept n1 n2 i (BinaryNode at Equal left right)
    → ((y : Tree) → Shows n2 i y → Finds (Grows y n2 n3) (λ turns. ands_from (unary_at turns depth) turns (place end1 r1) y) found r1 r2)
    → Finds (Grows x n0 n3) (λ turns. equal_from (unary_at turns depth) turns at (place end s) x) found s r2
equal_found depth end end1 at i left right found s r1 r2 n0 n1 n2 n3 x room shrinks same shown h kept g =
    let whole = Binary at Equal x h.0 in
    let b = put_binary n0 n1 n2 i at left right Equal x h.0 shown h.1 kept in
    let more = rw same at (g whole b.puts.shows) in
    finds_then (Puts n0 n1) (Grows whole n2 n3) (Grows x n0 n3) (λ turns. sum_at (unary_at turns depth) turns) (λ turns at2 y. ands_from (unary_at turns depth) turns at2 (Binary at Equal x y)) end right found s r1 r2 room shrinks h more
    (λ w u grown. grows_grows n0 n2 n3 i w x whole u b grown)

-- ---- behind a name

none_is : (depth turns at place : ℕ) (name s : List ℕ) → Free (nat_eq 61) s → after_name (unary_at turns depth) turns at name place s ≡ expression_from (unary_at turns depth) turns place (Name at name) s
none_is depth turns at place name [] f = refl
none_is depth turns at place name (b ∷ s) f = rw f refl

equal_is : (depth turns at p1 p2 p3 : ℕ) (name s r1 r2 : List ℕ) → s ≡ 61 ∷ r1 → r1 ≡ 61 ∷ r2 → p1 + 1 ≡ p2 → p2 + 1 ≡ p3
    → after_name (unary_at turns depth) turns at name p1 s ≡ equal_from (unary_at turns depth) turns p1 p3 (Name at name) r2
equal_is depth turns at p1 p2 p3 name s r1 r2 e f k l =
    let m1 : p1 + (length (61 ∷ (61 ∷ r2)) - length (61 ∷ r2)) ≡ p2 = omega arith in
    let m2 : p2 + (length (61 ∷ r2) - length r2) ≡ p3 = omega arith in
    rw (e, f, m1, m2) refl

value_by : (depth turns at p1 p2 : ℕ) (name r1 : List ℕ) → Free (nat_eq 61) r1 → p1 + 1 ≡ p2
    → after_name (unary_at turns depth) turns at name p1 (61 ∷ r1) ≡ bind (expression_at (unary_at turns depth) turns p2) (λ x. done (Assigned at name x)) r1
value_by depth turns at p1 p2 name [] f k = let m : p1 + 1 ≡ p2 = k in rw m refl
value_by depth turns at p1 p2 name (b ∷ r1) f k = let m : p1 + (length (61 ∷ (b ∷ r1)) - length (b ∷ r1)) ≡ p2 = omega arith in rw (m, f) refl

module _ (depth end at : ℕ) (v : Vec ℕ) (s : List ℕ) (room : length s ≤ end) where
  pub after_none : (first : ℕ) (found : Result ℕ Stop) (r0 r2 : List ℕ) (n0 n1 n2 : List Node) → takes_at 61 s ≡ (Some false, r0) → Kept n0 n1 first (NameNode at v)
      → ((x : Tree) → Shows n1 first x → Finds (Grows x n1 n2) (λ turns. expression_from (unary_at turns depth) turns (place end r0) x) found r0 r2)
      → Finds (Puts n0 n2) (λ turns. after_name (unary_at turns depth) turns at v.items (place end s)) found s r2
  after_none first found r0 r2 n0 n1 n2 e kept g =
      let k = left 61 s r0 e in
      let same = k.0 in
      let p = put_name n0 n1 first at v kept in
      let h = rw same at (g (Name at v.items) p.shows) in
      finds_as (Puts n0 n2) (λ turns. expression_from (unary_at turns depth) turns (place end s) (Name at v.items)) (λ turns. after_name (unary_at turns depth) turns at v.items (place end s)) found s s r2 (omega arith)
      (λ turns. none_is depth turns at (place end s) v.items s k.1)
      (finds_weaker (Grows (Name at v.items) n1 n2) (Puts n0 n2) (λ turns. expression_from (unary_at turns depth) turns (place end s) (Name at v.items)) found s r2 (λ i t grown. puts_grows n0 n1 n2 first i (Name at v.items) t p grown) h)

  pub after_equal : (first equals : ℕ) (found : Result ℕ Stop) (r1 r2 r3 : List ℕ) (n0 n1 n2 : List Node) → takes_at 61 s ≡ (Some true, r1) → takes_at 61 r1 ≡ (Some true, r2) → equals ≡ place end s → Kept n0 n1 first (NameNode at v)
      → ((x : Tree) → Shows n1 first x → Finds (Grows x n1 n2) (λ turns. equal_from (unary_at turns depth) turns equals (place end r2) x) found r2 r3)
      → Finds (Puts n0 n2) (λ turns. after_name (unary_at turns depth) turns at v.items (place end s)) found s r3
  after_equal first equals found r1 r2 r3 n0 n1 n2 e f here kept g =
      let k1 = took 61 s r1 e in
      let k2 = took 61 r1 r2 f in
      let l1 : length s ≡ suc (length r1) = rw k1 refl in
      let l2 : length r1 ≡ suc (length r2) = rw k2 refl in
      let p = put_name n0 n1 first at v kept in
      let h = rw here at (g (Name at v.items) p.shows) in
      finds_as (Puts n0 n2) (λ turns. equal_from (unary_at turns depth) turns (place end s) (place end r2) (Name at v.items)) (λ turns. after_name (unary_at turns depth) turns at v.items (place end s)) found r2 s r3 (omega arith)
      (λ turns. equal_is depth turns at (place end s) (place end r1) (place end r2) v.items s r1 r2 k1 k2 (omega arith) (omega arith))
      (finds_weaker (Grows (Name at v.items) n1 n2) (Puts n0 n2) (λ turns. equal_from (unary_at turns depth) turns (place end s) (place end r2) (Name at v.items)) found r2 r3 (λ i t grown. puts_grows n0 n1 n2 first i (Name at v.items) t p grown) h)

  module _ (r1 r0 : List ℕ) (e : takes_at 61 s ≡ (Some true, r1)) (f : takes_at 61 r1 ≡ (Some false, r0)) where
    value_is : (turns : ℕ) → after_name (unary_at turns depth) turns at v.items (place end s) s ≡ bind (expression_at (unary_at turns depth) turns (place end r0)) (λ x. done (Assigned at v.items x)) r0
    value_is turns =
        let k1 = took 61 s r1 e in
        let k2 = left 61 r1 r0 f in
        let same = k2.0 in
        let l1 : length s ≡ suc (length r1) = rw k1 refl in
        let h = value_by depth turns at (place end s) (place end r1) v.items r1 k2.1 (omega arith) in
        rw (same, k1) (rw k1 at h)

    length_after : length r0 < length s
    length_after =
        let k1 = took 61 s r1 e in
        let k2 = left 61 r1 r0 f in
        let same = k2.0 in
        let l1 : length s ≡ suc (length r1) = rw k1 refl in
        let l2 : length r0 ≡ length r1 = rw same refl in
        omega arith

    pub value_stops : (Shown : ℕ → Tree → Type 0) (stop : Stop) (r2 : List ℕ) (n0 n1 : List Node) → Finds (Puts n0 n1) (λ turns. expression_at (unary_at turns depth) turns (place end r0)) (Err stop) r0 r2
        → Finds Shown (λ turns. after_name (unary_at turns depth) turns at v.items (place end s)) (Err stop) s r2
    value_stops Shown Off r2 n0 n1 h = λ turns lt.
        let l = length_after in
        let k = h turns (omega (arith, l)) in
        value_is turns ∙ rw k refl
    value_stops Shown Memory r2 n0 n1 h = tt

    pub value_found : (value : ℕ) (found : Result ℕ Stop) (r2 : List ℕ) (n0 n1 n2 : List Node) → Finds (Puts n0 n1) (λ turns. expression_at (unary_at turns depth) turns (place end r0)) (Ok value) r0 r2
        → IfOk found (λ i. Kept n1 n2 i (AssignedNode at v value)) → IfErr found (λ stop. stop ≡ Memory)
        → Finds (Puts n0 n2) (λ turns. after_name (unary_at turns depth) turns at v.items (place end s)) found s r2
    value_found value found r2 n0 n1 n2 h k m =
        finds_kept n1 n2 (AssignedNode at v value) (Puts n0 n2) (λ turns. after_name (unary_at turns depth) turns at v.items (place end s)) found s r2 (Assigned at v.items h.0) k m
        (λ i kept. put_assigned n0 n1 n2 i at value v h.0 h.1 kept)
        (λ turns lt.
        let l = length_after in
        let f2 = h.2 turns (omega (arith, l)) in
        value_is turns ∙ rw f2 refl)

-- ---- names and calls that begin a statement

after_call : (unary : ℕ → Read Tree) (turns at : ℕ) (x : Tree) (s : List ℕ) → IsNoName x → after_word unary turns at x s ≡ expression_from unary turns at x s
after_call unary turns at (Number p n) s h = refl
after_call unary turns at (Dice p g) s h = refl
after_call unary turns at (Quoted p m) s h = refl
after_call unary turns at (Name p name) s h = absurd h
after_call unary turns at (Call0 p f) s h = refl
after_call unary turns at (Call1 p f x) s h = refl
after_call unary turns at (Call2 p f x y) s h = refl
after_call unary turns at (Call3 p f x y z) s h = refl
after_call unary turns at (Negated p x) s h = refl
after_call unary turns at (Inverted p x) s h = refl
after_call unary turns at (Binary p o x y) s h = refl
after_call unary turns at (Assigned p name x) s h = refl

module _ (depth end : ℕ) (s r1 : List ℕ) (room : length s ≤ end) where
  pub named_stops : (Shown : ℕ → Tree → Type 0) (stop : Stop) → FindsName (Err stop) s r1 → Finds Shown (λ turns. named_at depth turns (place end s)) (Err stop) s r1
  named_stops Shown stop h =
      stops_then Shown Shown (λ turns at2. then_blanks (word_of depth turns at2)) (λ turns. after_word (unary_at turns depth) turns) (place end s) stop s r1
      (stops_blanks Shown (λ turns. word_of depth turns (place end s)) stop s r1 (word_stops depth end s r1 room Shown stop h))

  pub named_alone : (Shown : ℕ → Tree → Type 0) (at : ℕ) (v : Vec ℕ) (found : Result ℕ Stop) (r2 r3 : List ℕ) → length r1 ≤ length s → length r2 ≤ length r1 → at ≡ place end s → FindsName (Ok v) s r1 → Calls depth v.items None r1
      → (w : List ℕ) × (blanks_at r1 ≡ (Some w, r2))
      → Finds Shown (λ turns. after_name (unary_at turns depth) turns at v.items (place end r2)) found r2 r3 → Finds Shown (λ turns. named_at depth turns (place end s)) found s r3
  named_alone Shown at v found r2 r3 shrinks shrinks2 here h no_call (w, b) g =
      let g2 = rw here at g in
      finds_as Shown (λ turns. after_name (unary_at turns depth) turns (place end s) v.items (place end r2)) (λ turns. named_at depth turns (place end s)) found r2 s r3 (omega arith)
      (λ turns.
      let e = word_is (nests depth) (expression_at (nested_at turns depth) turns) (place end s) (place end r1) s r1 v.items h (omega arith) ∙ no_call (expression_at (nested_at turns depth) turns) (place end s) (place end r1) in
      let d : place end s + (length s - length r2) ≡ place end r2 = omega arith in
      rw (e, b, d) refl) g2

  pub named_call_stops : (Shown Told : ℕ → Tree → Type 0) (at end1 : ℕ) (v : Vec ℕ) (f : Function) (stop : Stop) (r2 : List ℕ) → length r1 ≤ length s → at ≡ place end s → end1 ≡ end → FindsName (Ok v) s r1 → Calls depth v.items (Some f) r1
      → ((i : ℕ) (t : Tree) → Shown i t → Told i t)
      → Finds Shown (λ turns. arguments_at (expression_at (nested_at turns depth) turns) at f (place end1 r1) (arity f)) (Err stop) r1 r2
      → Finds Told (λ turns. named_at depth turns (place end s)) (Err stop) s r2
  named_call_stops Shown Told at end1 v f stop r2 shrinks here same h calls weaker g =
      let g1 = subst (λ (p : ℕ). Finds Shown (λ turns. arguments_at (expression_at (nested_at turns depth) turns) p f (place end1 r1) (arity f)) (Err stop) r1 r2) here g in
      let g2 = subst (λ (e : ℕ). Finds Shown (λ turns. arguments_at (expression_at (nested_at turns depth) turns) (place end s) f (place e r1) (arity f)) (Err stop) r1 r2) same g1 in
      finds_weaker Shown Told (λ turns. named_at depth turns (place end s)) (Err stop) s r2 weaker
      (stops_then Shown Shown (λ turns at2. then_blanks (word_of depth turns at2)) (λ turns. after_word (unary_at turns depth) turns) (place end s) stop s r2
      (stops_blanks Shown (λ turns. word_of depth turns (place end s)) stop s r2 (word_calls depth end s r1 room Shown v f (place end s) (Err stop) r2 shrinks refl h calls g2)))

  pub named_call : (at : ℕ) (v : Vec ℕ) (f : Function) (call : ℕ) (found : Result ℕ Stop) (r2 r3 r4 : List ℕ) (n0 n1 n2 : List Node) → length r1 ≤ length s → length r2 ≤ length r1 → length r3 ≤ length r2 → FindsName (Ok v) s r1 → Calls depth v.items (Some f) r1
      → Finds (PutsCall n0 n1) (λ turns. arguments_at (expression_at (nested_at turns depth) turns) (place end s) f (place end r1) (arity f)) (Ok call) r1 r2
      → (w : List ℕ) × (blanks_at r2 ≡ (Some w, r3))
      → ((x : Tree) → Shows n1 call x → Finds (Grows x n1 n2) (λ turns. expression_from (unary_at turns depth) turns (place end r3) x) found r3 r4)
      → Finds (Puts n0 n2) (λ turns. named_at depth turns (place end s)) found s r4
  named_call at v f call found r2 r3 r4 n0 n1 n2 shrinks shrinks2 shrinks3 h calls g behind more =
      let word = word_calls depth end s r1 room (PutsCall n0 n1) v f (place end s) (Ok call) r2 shrinks refl h calls g in
      let first = finds_blanks (PutsCall n0 n1) (λ turns. word_of depth turns (place end s)) call s r2 r3 behind word in
      let rest = more first.0 first.1.puts.shows in
      finds_then (PutsCall n0 n1) (Grows first.0 n1 n2) (Puts n0 n2) (λ turns at2. then_blanks (word_of depth turns at2)) (λ turns. after_word (unary_at turns depth) turns) end call found s r3 r4 room (omega arith) first
      (finds_as (Grows first.0 n1 n2) (λ turns. expression_from (unary_at turns depth) turns (place end r3) first.0) (λ turns. after_word (unary_at turns depth) turns (place end r3) first.0) found r3 r3 r4 (omega arith)
      (λ turns. after_call (unary_at turns depth) turns (place end r3) first.0 r3 first.1.no_name) rest)
      (λ i t grown. puts_grows n0 n1 n2 call i first.0 t first.1.puts grown)

-- ---- statements

module _ (depth d end : ℕ) (nest : depth ≡ suc d) (s r1 : List ℕ) (room : length s ≤ end) (shrinks : length r1 ≤ length s) where
  pub statement_named : (Shown : ℕ → Tree → Type 0) (found : Result ℕ Stop) (r2 : List ℕ) → (w : List ℕ) × (blanks_at s ≡ (Some w, r1)) → HeadIs is_letter r1 true
      → Finds Shown (λ turns. named_at depth turns (place end r1)) found r1 r2 → Finds Shown (λ turns. statement_at d turns (place end s)) found s r2
  unfolding statement_at
  statement_named Shown found r2 (w, b) h g =
      finds_as Shown (λ turns. named_at depth turns (place end r1)) (λ turns. statement_at d turns (place end s)) found r1 s r2 shrinks
      (λ turns.
      let m : place end s + (length s - length r1) ≡ place end r1 = omega arith in
      rw (nest, b, m) (head_true is_letter (named_at (suc d) turns (place end r1)) (expr_at (suc d) turns (place end r1)) r1 h)) g

  pub statement_other : (Shown : ℕ → Tree → Type 0) (found : Result ℕ Stop) (r2 : List ℕ) → (w : List ℕ) × (blanks_at s ≡ (Some w, r1)) → HeadIs is_letter r1 false
      → Finds Shown (λ turns. expr_at depth turns (place end r1)) found r1 r2 → Finds Shown (λ turns. statement_at d turns (place end s)) found s r2
  unfolding statement_at
  statement_other Shown found r2 (w, b) h g =
      finds_as Shown (λ turns. expr_at depth turns (place end r1)) (λ turns. statement_at d turns (place end s)) found r1 s r2 shrinks
      (λ turns.
      let m : place end s + (length s - length r1) ≡ place end r1 = omega arith in
      rw (nest, b, m) (head_false is_letter (named_at (suc d) turns (place end r1)) (expr_at (suc d) turns (place end r1)) r1 h)) g
