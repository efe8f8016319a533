-- Readers that give one answer of a text from some number of turns on.
use Rattle.std.proofs.Common.{◌≡◌, ℕ, zero, suc, ◌+◌, ◌-◌, ◌<◌, ◌≤◌, Bool, true, false, List, [], ◌∷◌, length, Option, Some, None, refl, ap, ◌∙◌, arith}
use Rattle.std.proofs.lemmas.List.{length-append}
use Rattle.reading.specs.Reading.{Read, done, bind, on_head, item}
use Rattle.reading.specs.Placed.{bind_at, more_at, chain_at}
use Rattle.reading.proofs.Laws.{Fate, Reads}

-- from m turns on this is the answer of s, and no more is left than there was
pub record Settles {A : Type 0} (m : ℕ) (read : ℕ → Read A) (s : List ℕ) : Type 0 where
  pub outcome : Option A
  pub rest : List ℕ
  pub is : (turns : ℕ) → m ≤ turns → read turns s ≡ (outcome, rest)
  pub shrinks : length rest ≤ length s

-- and so of each text of fewer than m bytes
abbrev pub Settled : {A : Type 0} → ℕ → (ℕ → Read A) → Type 0
Settled m read = (s : List ℕ) → length s < m → Settles m read s

-- ---- readers that take no turns

pub settled_reads : {A : Type 0} (m : ℕ) (p : Read A) (G : List ℕ → A → Type 0) → ((s : List ℕ) → Reads p G s) → Settled m (λ turns. p)
settled_reads m p G reads s lt =
    let q = reads s in
    let len : length s ≡ length q.front + length q.rest = ap length q.split ∙ length-append q.front q.rest in
    record { outcome = q.outcome; rest = q.rest; is = λ turns le. q.is; shrinks = omega arith }

pub settled_done : {A : Type 0} (m : ℕ) (x : A) → Settled m (λ turns. done x)
settled_done m x s lt = record { outcome = Some x; rest = s; is = λ turns le. refl; shrinks = omega arith }

pub settled_nothing : {A : Type 0} (m : ℕ) → Settled {A = A} m (λ turns s. (None, s))
settled_nothing m s lt = record { outcome = None; rest = s; is = λ turns le. refl; shrinks = omega arith }

item_by : (m : ℕ) (test : ℕ → Bool) (b : ℕ) (s : List ℕ) (v : Bool) → test b ≡ v → Settles m (λ turns. item test) (b ∷ s)
item_by m test b s true e = record { outcome = Some b; rest = s; is = λ turns le. rw e refl; shrinks = omega arith }
item_by m test b s false e = record { outcome = None; rest = b ∷ s; is = λ turns le. rw e refl; shrinks = omega arith }

pub settled_item : (m : ℕ) (test : ℕ → Bool) → Settled m (λ turns. item test)
settled_item m test [] lt = record { outcome = None; rest = []; is = λ turns le. refl; shrinks = omega arith }
settled_item m test (b ∷ s) lt = item_by m test b s (test b) refl

-- ---- one reader behind another

module _ {A B : Type 0} (m at : ℕ) (p : ℕ → ℕ → Read A) (k : ℕ → ℕ → A → Read B) (s : List ℕ) where
  with_outcome : (o : Option A) (r : List ℕ) → ((turns : ℕ) → m ≤ turns → p turns at s ≡ (o, r)) → length r ≤ length s
      → ((at2 : ℕ) (x : A) → Settles m (λ turns. k turns at2 x) r) → Settles m (λ turns. bind_at at (p turns) (k turns)) s
  with_outcome None r is shrinks second = record { outcome = None; rest = r; is = λ turns le. let e = is turns le in rw e refl; shrinks = shrinks }
  with_outcome (Some x) r is shrinks second =
      let q = second (at + (length s - length r)) x in
      let less = q.shrinks in
      record { outcome = q.outcome; rest = q.rest; is = λ turns le. let e = is turns le in rw e (q.is turns le); shrinks = omega arith }

pub settled_bind_at : {A B : Type 0} (m at : ℕ) (p : ℕ → ℕ → Read A) (k : ℕ → ℕ → A → Read B) → Settled m (λ turns. p turns at)
    → ((at2 : ℕ) (x : A) → Settled m (λ turns. k turns at2 x)) → Settled m (λ turns. bind_at at (p turns) (k turns))
settled_bind_at m at p k first second s lt =
    let q = first s lt in
    let less = q.shrinks in
    with_outcome m at p k s q.outcome q.rest q.is less (λ at2 x. second at2 x q.rest (omega arith))

pub settled_bind : {A B : Type 0} (m : ℕ) (p : ℕ → Read A) (k : ℕ → A → Read B) → Settled m p → ((x : A) → Settled m (λ turns. k turns x)) → Settled m (λ turns. bind (p turns) (k turns))
settled_bind m p k first second = settled_bind_at m 0 (λ turns _. p turns) (λ turns _ x. k turns x) first (λ at2 x. second x)

-- ---- the next byte decides

head_by : {A : Type 0} (m : ℕ) (test : ℕ → Bool) (p q : ℕ → Read A) (b : ℕ) (s : List ℕ) (v : Bool) → test b ≡ v → Settles m p (b ∷ s) → Settles m q (b ∷ s) → Settles m (λ turns. on_head test (p turns) (q turns)) (b ∷ s)
head_by m test p q b s true e h g = record { outcome = h.outcome; rest = h.rest; is = λ turns le. rw e (h.is turns le); shrinks = h.shrinks }
head_by m test p q b s false e h g = record { outcome = g.outcome; rest = g.rest; is = λ turns le. rw e (g.is turns le); shrinks = g.shrinks }

pub settled_head : {A : Type 0} (m : ℕ) (test : ℕ → Bool) (p q : ℕ → Read A) → Settled m p → Settled m q → Settled m (λ turns. on_head test (p turns) (q turns))
settled_head m test p q h g [] lt = let k = g [] lt in record { outcome = k.outcome; rest = k.rest; is = k.is; shrinks = k.shrinks }
settled_head m test p q h g (b ∷ s) lt = head_by m test p q b s (test b) refl (h (b ∷ s) lt) (g (b ∷ s) lt)

-- ---- chains of operators

-- what is read takes a byte at least
pub record Takes {A : Type 0} (p : Read A) (s : List ℕ) : Type 0 where
  pub outcome : Option A
  pub rest : List ℕ
  pub is : p s ≡ (outcome, rest)
  pub shrinks : length rest ≤ length s
  pub takes : (x : A) → outcome ≡ Some x → length rest < length s

fate_longer : {A : Type 0} (G : List ℕ → A → Type 0) (f : List ℕ) (o : Option A) (x : A) → ((g : List ℕ) (y : A) → G g y → 1 ≤ length g) → Fate G f o → o ≡ Some x → 1 ≤ length f
fate_longer G f None x some h e = absurd cc
fate_longer G f (Some y) x some h e = some f y h

pub takes_reads : {A : Type 0} (p : Read A) (G : List ℕ → A → Type 0) (s : List ℕ) → ((f : List ℕ) (x : A) → G f x → 1 ≤ length f) → Reads p G s → Takes p s
takes_reads p G s some q =
    let len : length s ≡ length q.front + length q.rest = ap length q.split ∙ length-append q.front q.rest in
    record { outcome = q.outcome; rest = q.rest; is = q.is; shrinks = omega arith; takes = λ x e. let one = fate_longer G q.front q.outcome x some q.fate e in omega arith }

-- from n + 1 turns on there is one more than from n on
pub from_suc : (P : ℕ → Type 0) (n : ℕ) → ((turns : ℕ) → n ≤ turns → P (suc turns)) → (turns : ℕ) → suc n ≤ turns → P turns
from_suc P n told zero le = absurd (omega arith)
from_suc P n told (suc turns) le = told turns (omega arith)

module _ {O T : Type 0} (test : ℕ → Bool) (op : ℕ → Read O) (operand : ℕ → ℕ → Read T) (mk : ℕ → O → T → T → T) (m : ℕ)
    (ops : (at : ℕ) (s : List ℕ) → Takes (op at) s) (operands : (at : ℕ) → Settled m (λ turns. operand turns at)) where
  -- the answer from n turns on for the chain, and m for what it chains
  record Goes (n at : ℕ) (x : T) (s : List ℕ) : Type 0 where
    outcome : Option T
    rest : List ℕ
    is : (room turns : ℕ) → m ≤ room → n ≤ turns → more_at test op (operand room) mk turns at x s ≡ (outcome, rest)
    shrinks : length rest ≤ length s

  stops : (n at : ℕ) (x : T) (b : ℕ) (s : List ℕ) → test b ≡ false → Goes (suc n) at x (b ∷ s)
  stops n at x b s e = record {
    outcome = Some x;
    rest = b ∷ s;
    is = λ room turns enough le. from_suc (λ u. more_at test op (operand room) mk u at x (b ∷ s) ≡ (Some x, b ∷ s)) n (λ u more. rw e refl) turns le;
    shrinks = omega arith;
  }

  no_operator : (n at : ℕ) (x : T) (b : ℕ) (s r : List ℕ) → test b ≡ true → op at (b ∷ s) ≡ (None, r) → length r ≤ length (b ∷ s) → Goes (suc n) at x (b ∷ s)
  no_operator n at x b s r e f less = record {
    outcome = None;
    rest = r;
    is = λ room turns enough le. from_suc (λ u. more_at test op (operand room) mk u at x (b ∷ s) ≡ (None, r)) n (λ u more. rw (e, f) refl) turns le;
    shrinks = less;
  }

  no_operand : (n at : ℕ) (x : T) (b : ℕ) (s r r2 : List ℕ) (o : O) → test b ≡ true → op at (b ∷ s) ≡ (Some o, r)
      → ((room : ℕ) → m ≤ room → operand room (at + (length (b ∷ s) - length r)) r ≡ (None, r2)) → length r2 ≤ length (b ∷ s) → Goes (suc n) at x (b ∷ s)
  no_operand n at x b s r r2 o e f g less = record {
    outcome = None;
    rest = r2;
    is = λ room turns enough le. let h = g room enough in from_suc (λ u. more_at test op (operand room) mk u at x (b ∷ s) ≡ (None, r2)) n (λ u more. rw (e, f, h) refl) turns le;
    shrinks = less;
  }

  goes_on : (n at : ℕ) (x : T) (b : ℕ) (s r r2 : List ℕ) (o : O) (y : T) → test b ≡ true → op at (b ∷ s) ≡ (Some o, r)
      → ((room : ℕ) → m ≤ room → operand room (at + (length (b ∷ s) - length r)) r ≡ (Some y, r2)) → length r2 ≤ length (b ∷ s)
      → Goes n ((at + (length (b ∷ s) - length r)) + (length r - length r2)) (mk at o x y) r2 → Goes (suc n) at x (b ∷ s)
  goes_on n at x b s r r2 o y e f g less rec = record {
    outcome = rec.outcome;
    rest = rec.rest;
    is = λ room turns enough le.
        let h = g room enough in
        from_suc (λ u. more_at test op (operand room) mk u at x (b ∷ s) ≡ (rec.outcome, rec.rest)) n (λ u more. let k = rec.is room u enough more in rw (e, f, h) k) turns le;
    shrinks = let fewer = rec.shrinks in omega arith;
  }

  by_operand : (n at : ℕ) (x : T) (b : ℕ) (s r r2 : List ℕ) (o : O) (y : Option T) → test b ≡ true → op at (b ∷ s) ≡ (Some o, r)
      → ((room : ℕ) → m ≤ room → operand room (at + (length (b ∷ s) - length r)) r ≡ (y, r2)) → length r2 ≤ length (b ∷ s)
      → ((at2 : ℕ) (z : T) → Goes n at2 z r2) → Goes (suc n) at x (b ∷ s)
  by_operand n at x b s r r2 o None e f g less rec = no_operand n at x b s r r2 o e f g less
  by_operand n at x b s r r2 o (Some y) e f g less rec = goes_on n at x b s r r2 o y e f g less (rec ((at + (length (b ∷ s) - length r)) + (length r - length r2)) (mk at o x y))

  by_operator : (n at : ℕ) (x : T) (b : ℕ) (s r : List ℕ) (o : Option O) → test b ≡ true → op at (b ∷ s) ≡ (o, r) → length r ≤ length (b ∷ s) → ((v : O) → o ≡ Some v → length r < length (b ∷ s))
      → length (b ∷ s) < m → ((at2 : ℕ) (z : T) (r2 : List ℕ) → length r2 < length (b ∷ s) → Goes n at2 z r2) → Goes (suc n) at x (b ∷ s)
  by_operator n at x b s r None e f less takes small rec = no_operator n at x b s r e f less
  by_operator n at x b s r (Some o) e f less takes small rec =
      let one = takes o refl in
      let q = operands (at + (length (b ∷ s) - length r)) r (omega arith) in
      let fewer = q.shrinks in
      by_operand n at x b s r q.rest o q.outcome e f q.is (omega arith) (λ at2 z. rec at2 z q.rest (omega arith))

  by_test : (n at : ℕ) (x : T) (b : ℕ) (s : List ℕ) (v : Bool) → test b ≡ v → length (b ∷ s) < m → ((at2 : ℕ) (z : T) (r2 : List ℕ) → length r2 < length (b ∷ s) → Goes n at2 z r2) → Goes (suc n) at x (b ∷ s)
  by_test n at x b s true e small rec = let q = ops at (b ∷ s) in by_operator n at x b s q.rest q.outcome e q.is q.shrinks q.takes small rec
  by_test n at x b s false e small rec = stops n at x b s e

  goes : (n at : ℕ) (x : T) (s : List ℕ) → length s < n → length s < m → Goes n at x s
  goes zero at x s lt small = absurd (omega arith)
  goes (suc n) at x [] lt small = record {
    outcome = Some x;
    rest = [];
    is = λ room turns enough le. from_suc (λ u. more_at test op (operand room) mk u at x [] ≡ (Some x, [])) n (λ u more. refl) turns le;
    shrinks = omega arith;
  }
  goes (suc n) at x (b ∷ s) lt small = by_test n at x b s (test b) refl small (λ at2 z r2 fewer. goes n at2 z r2 (omega arith) (omega arith))

  pub settled_more : (at : ℕ) (x : T) → Settled m (λ turns. more_at test op (operand turns) mk turns at x)
  settled_more at x s lt = let q = goes m at x s lt lt in record { outcome = q.outcome; rest = q.rest; is = λ turns le. q.is turns turns le le; shrinks = q.shrinks }

  pub settled_chain : (at : ℕ) → Settled m (λ turns. chain_at test op (operand turns) mk turns at)
  settled_chain at = settled_bind_at m at operand (λ turns. more_at test op (operand turns) mk turns) (operands at) settled_more
