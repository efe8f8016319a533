-- Laws of reading with places, and of chains of operators, whatever the grammar is.
use Rattle.std.proofs.Common.{◌≡◌, ℕ, zero, suc, ◌+◌, ◌-◌, ◌<◌, Bool, true, false, List, [], ◌∷◌, ◌++◌, length, Option, Some, None, refl, sym, ap, subst, ◌∙◌, append_assoc, append-nil, arith}
use Rattle.std.proofs.lemmas.List.{length-append}
use Rattle.reading.specs.Reading.{Read, done, on_head, Begins}
use Rattle.reading.proofs.Laws.{Fate, Reads, reads_done, reads_head}
use Rattle.reading.proofs.Pairs.{Free, head_free}
use Rattle.reading.specs.Placed.{Grammar, bind_at, more_at, chain_at, Steps, Chain}

pub bind_at_is : {A B : Type 0} (at : ℕ) (p : ℕ → Read A) (k : ℕ → A → Read B) (s f r : List ℕ) (x : A) → p at s ≡ (Some x, r) → s ≡ f ++ r → bind_at at p k s ≡ k (at + length f) x r
bind_at_is at p k s f r x e split =
    let len : length s ≡ length f + length r = ap length split ∙ length-append f r in
    let d : length s - length r ≡ length f = omega arith in
    rw (e, d) refl

pub record PlacedSequence {A B : Type 0} (at : ℕ) (G : Grammar A) (H : ℕ → A → List ℕ → B → Type 0) (J : Grammar B) : Type 0 where
  pub then : (a b : List ℕ) (x : A) (y : B) → G at a x → H (at + length a) x b y → J at (a ++ b) y
  pub ends : (a : List ℕ) (x : A) → G at a x → (b : List ℕ) × (y : B) × H (at + length a) x b y

module _ {A B : Type 0} (at : ℕ) (p : ℕ → Read A) (k : ℕ → A → Read B) (G : Grammar A) (H : ℕ → A → List ℕ → B → Type 0) (J : Grammar B) (join : PlacedSequence at G H J) (s : List ℕ) where
  begins_none : (f : List ℕ) → Begins (G at) f → Begins (J at) f
  begins_none f h =
      let e = join.ends (f ++ h.0) h.1 h.2 in
      (h.0 ++ e.0, e.1, subst (λ (w : List ℕ). J at w e.1) (append_assoc f h.0 e.0) (join.then (f ++ h.0) e.0 h.1 e.1 h.2 e.2))

  fate_some : (f g : List ℕ) (x : A) (o : Option B) → G at f x → Fate (H (at + length f) x) g o → Fate (J at) (f ++ g) o
  fate_some f g x None gx h = (h.0, h.1, subst (λ (w : List ℕ). J at w h.1) (sym (append_assoc f g h.0)) (join.then f (g ++ h.0) x h.1 gx h.2))
  fate_some f g x (Some y) gx h = join.then f g x y gx h

  one_some : (f g r r' : List ℕ) (x : A) (o : Option B)
      → ((b : ℕ) (z z' : List ℕ) → r ≡ b ∷ z → p at (f ++ (b ∷ z')) ≡ (Some x, b ∷ z'))
      → r ≡ g ++ r'
      → ((b : ℕ) (z z' : List ℕ) → r' ≡ b ∷ z → k (at + length f) x (g ++ (b ∷ z')) ≡ (o, b ∷ z'))
      → (b : ℕ) (z z' : List ℕ) → r' ≡ b ∷ z → bind_at at p k ((f ++ g) ++ (b ∷ z')) ≡ (o, b ∷ z')
  one_some f [] r r' x o first split second b z z' e =
      let h = first b z z' (split ∙ e) in
      let q : p at ((f ++ []) ++ (b ∷ z')) ≡ (Some x, b ∷ z') = rw append-nil h in
      bind_at_is at p k ((f ++ []) ++ (b ∷ z')) f (b ∷ z') x q (rw append-nil refl) ∙ second b z z' e
  one_some f (c ∷ g) r r' x o first split second b z z' e =
      let h = first c (g ++ r') (g ++ (b ∷ z')) split in
      let q : p at ((f ++ (c ∷ g)) ++ (b ∷ z')) ≡ (Some x, c ∷ (g ++ (b ∷ z'))) = rw append_assoc h in
      bind_at_is at p k ((f ++ (c ∷ g)) ++ (b ∷ z')) f (c ∷ (g ++ (b ∷ z'))) x q (append_assoc f (c ∷ g) (b ∷ z')) ∙ second b z z' e

  with_outcome : (o : Option A) (r f : List ℕ) → p at s ≡ (o, r) → s ≡ f ++ r
      → ((b : ℕ) (z z' : List ℕ) → r ≡ b ∷ z → p at (f ++ (b ∷ z')) ≡ (o, b ∷ z'))
      → Fate (G at) f o → ((at2 : ℕ) (x : A) → Reads (k at2 x) (H at2 x) r) → Reads (bind_at at p k) (J at) s
  with_outcome None r f is split one fate second = record {
    outcome = None;
    rest = r;
    front = f;
    is = rw is refl;
    split = split;
    one = λ b z z' e. rw (one b z z' e) refl;
    fate = begins_none f fate;
  }
  with_outcome (Some x) r f is split one fate second =
      let q = second (at + length f) x in
      record {
        outcome = q.outcome;
        rest = q.rest;
        front = f ++ q.front;
        is = bind_at_is at p k s f r x is split ∙ q.is;
        split = split ∙ (ap (λ (w : List ℕ). f ++ w) q.split ∙ sym (append_assoc f q.front q.rest));
        one = one_some f q.front r q.rest x q.outcome one q.split q.one;
        fate = fate_some f q.front x q.outcome fate q.fate;
      }

  pub reads_bind_at : Reads (p at) (G at) s → ((at2 : ℕ) (x : A) (r : List ℕ) → Reads (k at2 x) (H at2 x) r) → Reads (bind_at at p k) (J at) s
  reads_bind_at first second = with_outcome first.outcome first.rest first.front first.is first.split first.one first.fate (λ at2 x. second at2 x _)

-- a head that meets the test takes the first way
pub on_head_at : {A : Type 0} (test : ℕ → Bool) (p q : Read A) (s : List ℕ) (c : ℕ) (w : List ℕ) → {o : Option A × List ℕ} → s ≡ c ∷ w → test c ≡ true → p s ≡ o → on_head test p q s ≡ o
on_head_at test p q [] c w e t h = absurd cc
on_head_at test p q (b ∷ s) c w e t h = let same : b ≡ c = cc in let u : test b ≡ true = rw same t in rw u h

-- a word of a grammar, at each place
abbrev pub Inhabited : {A : Type 0} → Grammar A → Type 0
Inhabited {A} G = (at : ℕ) → (s : List ℕ) × (x : A) × G at s x

-- some steps, whichever they are
abbrev pub SomeSteps : {O T : Type 0} → Grammar O → Grammar T → (ℕ → O → T → T → T) → ℕ → T → List ℕ → T → Type 0
SomeSteps {O} {T} Op Operand mk at x s t = (steps : List (O × T)) × Steps Op Operand mk steps at x s t

abbrev AfterOp : {O T : Type 0} → Grammar O → Grammar T → (ℕ → O → T → T → T) → ℕ → T → ℕ → O → List ℕ → T → Type 0
AfterOp {O} {T} Op Operand mk at x at2 o s t = (b : List ℕ) × (c : List ℕ) × (y : T) × (s ≡ b ++ c) × Operand at2 b y × SomeSteps Op Operand mk (at2 + length b) (mk at o x y) c t

module _ {O T : Type 0} (test : ℕ → Bool) (op : ℕ → Read O) (operand : ℕ → Read T) (Op : Grammar O) (Operand : Grammar T) (mk : ℕ → O → T → T → T)
    (reads_op : (at : ℕ) (s : List ℕ) → Reads (op at) (Op at) s) (reads_operand : (at : ℕ) (s : List ℕ) → Reads (operand at) (Operand at) s)
    (some_operand : Inhabited Operand) where
  operand_joins : (at : ℕ) (x : T) (at2 : ℕ) (o : O) → PlacedSequence at2 Operand (λ at3 y. SomeSteps Op Operand mk at3 (mk at o x y)) (λ at3. AfterOp Op Operand mk at x at3 o)
  operand_joins at x at2 o = record {
    then = λ a b y t g h. (a, b, y, refl, g, h);
    ends = λ a y g. ([], mk at o x y, ([], (refl, refl)));
  }

  op_then : (at : ℕ) (x : T) (a b : List ℕ) (o : O) (t : T) → Op at a o → AfterOp Op Operand mk at x (at + length a) o b t → SomeSteps Op Operand mk at x (a ++ b) t
  op_then at x a b o t g (b1, c, y, e, h, (steps, st)) = ((o, y) ∷ steps, (a, b1, c, ap (λ (w : List ℕ). a ++ w) e, g, h, st))

  op_ends : (at : ℕ) (x : T) (a : List ℕ) (o : O) → (b : List ℕ) × (t : T) × AfterOp Op Operand mk at x (at + length a) o b t
  op_ends at x a o = let w = some_operand (at + length a) in (w.0, mk at o x w.1, (w.0, [], w.1, sym (append-nil w.0), w.2, ([], (refl, refl))))

  op_joins : (at : ℕ) (x : T) → PlacedSequence at Op (λ at2 o. AfterOp Op Operand mk at x at2 o) (λ at2. SomeSteps Op Operand mk at2 x)
  op_joins at x = record { then = op_then at x; ends = λ a o g. op_ends at x a o }

  pub reads_more : (turns at : ℕ) (x : T) (s : List ℕ) → Reads (more_at test op operand mk turns at x) (SomeSteps Op Operand mk at x) s
  reads_more zero at x s = record { outcome = None; rest = s; front = []; is = refl; split = refl; one = λ b z z' e. refl; fate = ([], x, ([], (refl, refl))) }
  reads_more (suc turns) at x s = reads_head test
      (bind_at at op (λ at2 o. bind_at at2 operand (λ at3 y. more_at test op operand mk turns at3 (mk at o x y)))) (done x) (SomeSteps Op Operand mk at x) s
      (λ b t e. reads_bind_at at op (λ at2 o. bind_at at2 operand (λ at3 y. more_at test op operand mk turns at3 (mk at o x y))) Op (λ at2 o. AfterOp Op Operand mk at x at2 o) (λ at2. SomeSteps Op Operand mk at2 x) (op_joins at x) (b ∷ t)
      (reads_op at (b ∷ t))
      (λ at2 o r. reads_bind_at at2 operand (λ at3 y. more_at test op operand mk turns at3 (mk at o x y)) Operand (λ at3 y. SomeSteps Op Operand mk at3 (mk at o x y)) (λ at3. AfterOp Op Operand mk at x at3 o) (operand_joins at x at2 o) r
      (reads_operand at2 r)
      (λ at3 y q. reads_more turns at3 (mk at o x y) q)))
      (λ t. reads_done (SomeSteps Op Operand mk at x) x t ([], (refl, refl)))

  chain_joins : (at : ℕ) → PlacedSequence at Operand (λ at2 x. SomeSteps Op Operand mk at2 x) (Chain Op Operand mk)
  chain_joins at = record {
    then = λ a b x t g h. (a, b, x, h.0, refl, g, h.1);
    ends = λ a x g. ([], x, ([], (refl, refl)));
  }

  pub reads_chain : (turns at : ℕ) (s : List ℕ) → Reads (chain_at test op operand mk turns at) (Chain Op Operand mk at) s
  reads_chain turns at s = reads_bind_at at operand (more_at test op operand mk turns) Operand (λ at2 x. SomeSteps Op Operand mk at2 x) (Chain Op Operand mk) (chain_joins at) s
      (reads_operand at s) (λ at2 x r. reads_more turns at2 x r)

  pub some_chain : Inhabited (Chain Op Operand mk)
  some_chain at = let w = some_operand at in (w.0, w.1, (w.0, [], w.1, [], sym (append-nil w.0), w.2, (refl, refl)))

-- ---- each word of a chain is read again

module _ {O T : Type 0} (test inner : ℕ → Bool) (op : ℕ → Read O) (operand : ℕ → Read T) (Op : Grammar O) (Operand : Grammar T) (mk : ℕ → O → T → T → T) (room : ℕ)
    (back_op : (at : ℕ) (a r : List ℕ) (o : O) → Op at a o → op at (a ++ r) ≡ (Some o, r))
    (back_operand : (at : ℕ) (b r : List ℕ) (x : T) → Operand at b x → Free inner r → length b < room → operand at (b ++ r) ≡ (Some x, r))
    (op_head : (at : ℕ) (a : List ℕ) (o : O) → Op at a o → (c : ℕ) × (w : List ℕ) × (a ≡ c ∷ w) × (test c ≡ true) × (inner c ≡ false)) where
  steps_free : (at : ℕ) (x : T) (s r : List ℕ) (t : T) (steps : List (O × T)) → Steps Op Operand mk steps at x s t → Free inner r → Free inner (s ++ r)
  steps_free at x s r t [] h free = rw h.0 free
  steps_free at x s r t (step ∷ steps) (a, b, c, e, g, h, st) free = let k = op_head at a step.0 g in rw (e, k.2) k.4

  one_step : (turns at : ℕ) (x t : T) (o : O) (y : T) (s a b c r : List ℕ) → s ≡ a ++ (b ++ c) → Op at a o → Operand (at + length a) b y
      → more_at test op operand mk turns ((at + length a) + length b) (mk at o x y) (c ++ r) ≡ (Some t, r)
      → Free inner (c ++ r) → length b < room → more_at test op operand mk (suc turns) at x (s ++ r) ≡ (Some t, r)
  one_step turns at x t o y s a b c r e g h rec free lt =
      let k = op_head at a o g in
      let p : s ++ r ≡ a ++ (b ++ (c ++ r)) = ap (λ (w : List ℕ). w ++ r) e ∙ simp append_assoc in
      let q1 = bind_at_is at op (λ at2 o2. bind_at at2 operand (λ at3 y2. more_at test op operand mk turns at3 (mk at o2 x y2))) (a ++ (b ++ (c ++ r))) a (b ++ (c ++ r)) o (back_op at a (b ++ (c ++ r)) o g) refl in
      let q2 = bind_at_is (at + length a) operand (λ at3 y2. more_at test op operand mk turns at3 (mk at o x y2)) (b ++ (c ++ r)) b (c ++ r) y (back_operand (at + length a) b (c ++ r) y h free lt) refl in
      let q : bind_at at op (λ at2 o2. bind_at at2 operand (λ at3 y2. more_at test op operand mk turns at3 (mk at o2 x y2))) (a ++ (b ++ (c ++ r))) ≡ (Some t, r) = q1 ∙ (q2 ∙ rec) in
      on_head_at test (bind_at at op (λ at2 o2. bind_at at2 operand (λ at3 y2. more_at test op operand mk turns at3 (mk at o2 x y2)))) (done x) (s ++ r) k.0 (k.1 ++ (b ++ (c ++ r))) (p ∙ ap (λ (w : List ℕ). w ++ (b ++ (c ++ r))) k.2) k.3 (rw p q)

  pub more_back : (turns at : ℕ) (x : T) (s r : List ℕ) (t : T) (steps : List (O × T)) → Steps Op Operand mk steps at x s t → Free inner r → Free test r → length s < turns → length s < room → more_at test op operand mk turns at x (s ++ r) ≡ (Some t, r)
  more_back zero at x s r t steps h free stop lt small = absurd (omega arith)
  more_back (suc turns) at x s r t [] h free stop lt small = rw (h.0, h.1) (head_free test (bind_at at op (λ at2 o. bind_at at2 operand (λ at3 y. more_at test op operand mk turns at3 (mk at o x y)))) x r stop)
  more_back (suc turns) at x s r t (step ∷ steps) (a, b, c, e, g, h, st) free stop lt small =
      let k = op_head at a step.0 g in
      let len : length s ≡ length a + (length b + length c) = ap length e ∙ (length-append a (b ++ c) ∙ ap (λ (n : ℕ). length a + n) (length-append b c)) in
      let one : length a ≡ suc (length k.1) = ap length k.2 in
      one_step turns at x t step.0 step.1 s a b c r e g h
      (more_back turns ((at + length a) + length b) (mk at step.0 x step.1) c r t steps st free stop (omega arith) (omega arith))
      (steps_free ((at + length a) + length b) (mk at step.0 x step.1) c r t steps st free) (omega arith)

  pub chain_back : (turns at : ℕ) (s r : List ℕ) (t : T) → Chain Op Operand mk at s t → Free inner r → Free test r → length s < turns → length s < room → chain_at test op operand mk turns at (s ++ r) ≡ (Some t, r)
  chain_back turns at s r t (a, b, x, steps, e, g, st) free stop lt small =
      let len : length s ≡ length a + length b = ap length e ∙ length-append a b in
      let p : s ++ r ≡ a ++ (b ++ r) = ap (λ (w : List ℕ). w ++ r) e ∙ append_assoc a b r in
      let k = back_operand at a (b ++ r) x g (steps_free (at + length a) x b r t steps st free) (omega arith) in
      bind_at_is at operand (more_at test op operand mk turns) (s ++ r) a (b ++ r) x (rw p k) p
      ∙ more_back turns (at + length a) x b r t steps st free stop (omega arith) (omega arith)
