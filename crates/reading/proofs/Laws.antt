-- Laws of reading that hold whatever the grammar is.
use Rattle.std.proofs.Common.{◌≡◌, ℕ, Bool, true, false, List, [], ◌∷◌, ◌++◌, Option, Some, None, refl, sym, ap, subst, ◌∙◌, append_assoc, append-nil}
use Rattle.reading.specs.Reading.{Read, done, bind, on_head, item, Begins}

-- What was read is a word of the grammar; what failed was, up to the failing place, the front of one.
abbrev pub Fate : {A : Type 0} → (List ℕ → A → Type 0) → List ℕ → Option A → Type 0
Fate G front None = Begins G front
Fate G front (Some x) = G front x

-- p on s: its outcome, the front that it read and the rest. It has looked one byte past the front at most.
pub record Reads {A : Type 0} (p : Read A) (G : List ℕ → A → Type 0) (s : List ℕ) : Type 0 where
  pub outcome : Option A
  pub rest : List ℕ
  pub front : List ℕ
  pub is : p s ≡ (outcome, rest)
  pub split : s ≡ front ++ rest
  pub one : (b : ℕ) (z z' : List ℕ) → rest ≡ b ∷ z → p (front ++ (b ∷ z')) ≡ (outcome, b ∷ z')
  pub fate : Fate G front outcome

pub reads_done : {A : Type 0} (G : List ℕ → A → Type 0) (x : A) (s : List ℕ) → G [] x → Reads (done x) G s
reads_done G x s g = record {
  outcome = Some x;
  rest = s;
  front = [];
  is = refl;
  split = refl;
  one = λ b z z' e. refl;
  fate = g;
}

-- what follows p's word: c x is k's
pub record Sequence {A B : Type 0} (G : List ℕ → A → Type 0) (H : A → List ℕ → B → Type 0) (J : List ℕ → B → Type 0) : Type 0 where
  pub then : (a b : List ℕ) (x : A) (y : B) → G a x → H x b y → J (a ++ b) y
  pub ends : (a : List ℕ) (x : A) → G a x → (b : List ℕ) × (y : B) × H x b y

module _ {A B : Type 0} (p : Read A) (k : A → Read B) (G : List ℕ → A → Type 0) (H : A → List ℕ → B → Type 0) (J : List ℕ → B → Type 0) (join : Sequence G H J) (s : List ℕ) where
  begins_none : (f : List ℕ) → Begins G f → Begins J f
  begins_none f h =
      let e = join.ends (f ++ h.0) h.1 h.2 in
      (h.0 ++ e.0, e.1, subst (λ (w : List ℕ). J w e.1) (append_assoc f h.0 e.0) (join.then (f ++ h.0) e.0 h.1 e.1 h.2 e.2))

  fate_some : (f g : List ℕ) (x : A) (o : Option B) → G f x → Fate (H x) g o → Fate J (f ++ g) o
  fate_some f g x None gx h = (h.0, h.1, subst (λ (w : List ℕ). J w h.1) (sym (append_assoc f g h.0)) (join.then f (g ++ h.0) x h.1 gx h.2))
  fate_some f g x (Some y) gx h = join.then f g x y gx h

  one_some : (f g r r' : List ℕ) (x : A) (o : Option B)
      → ((b : ℕ) (z z' : List ℕ) → r ≡ b ∷ z → p (f ++ (b ∷ z')) ≡ (Some x, b ∷ z'))
      → r ≡ g ++ r'
      → ((b : ℕ) (z z' : List ℕ) → r' ≡ b ∷ z → k x (g ++ (b ∷ z')) ≡ (o, b ∷ z'))
      → (b : ℕ) (z z' : List ℕ) → r' ≡ b ∷ z → bind p k ((f ++ g) ++ (b ∷ z')) ≡ (o, b ∷ z')
  one_some f [] r r' x o first split second b z z' e =
      let h = first b z z' (split ∙ e) in
      let q : p ((f ++ []) ++ (b ∷ z')) ≡ (Some x, b ∷ z') = rw append-nil h in
      rw q (second b z z' e)
  one_some f (c ∷ g) r r' x o first split second b z z' e =
      let h = first c (g ++ r') (g ++ (b ∷ z')) split in
      let q : p ((f ++ (c ∷ g)) ++ (b ∷ z')) ≡ (Some x, c ∷ (g ++ (b ∷ z'))) = rw append_assoc h in
      rw q (second b z z' e)

  with_outcome : (o : Option A) (r f : List ℕ) → p s ≡ (o, r) → s ≡ f ++ r
      → ((b : ℕ) (z z' : List ℕ) → r ≡ b ∷ z → p (f ++ (b ∷ z')) ≡ (o, b ∷ z'))
      → Fate G f o → ((x : A) → o ≡ Some x → Reads (k x) (H x) r) → Reads (bind p k) J s
  with_outcome None r f is split one fate second = record {
    outcome = None;
    rest = r;
    front = f;
    is = rw is refl;
    split = split;
    one = λ b z z' e. rw (one b z z' e) refl;
    fate = begins_none f fate;
  }
  with_outcome (Some x) r f is split one fate second =
      let q = second x refl in
      record {
        outcome = q.outcome;
        rest = q.rest;
        front = f ++ q.front;
        is = rw is q.is;
        split = split ∙ (ap (λ (w : List ℕ). f ++ w) q.split ∙ sym (append_assoc f q.front q.rest));
        one = one_some f q.front r q.rest x q.outcome one q.split q.one;
        fate = fate_some f q.front x q.outcome fate q.fate;
      }

  pub reads_bind : (first : Reads p G s) → ((x : A) → Reads (k x) (H x) first.rest) → Reads (bind p k) J s
  reads_bind first second = with_outcome first.outcome first.rest first.front first.is first.split first.one first.fate (λ x e. second x)

-- the word of one byte
abbrev pub IsItem : (ℕ → Bool) → List ℕ → ℕ → Type 0
IsItem test s b = (test b ≡ true) × (s ≡ b ∷ [])

-- a byte that meets the test, where there is one
pub record SomeItem (test : ℕ → Bool) : Type 0 where
  pub byte : ℕ
  pub meets : test byte ≡ true

item_at : (test : ℕ → Bool) → SomeItem test → (b : ℕ) (s : List ℕ) (v : Bool) → test b ≡ v → Reads (item test) (IsItem test) (b ∷ s)
item_at test some b s true e = record {
  outcome = Some b;
  rest = s;
  front = b ∷ [];
  is = rw e refl;
  split = refl;
  one = λ c z z' h. rw e refl;
  fate = (e, refl);
}
item_at test some b s false e = record {
  outcome = None;
  rest = b ∷ s;
  front = [];
  is = rw e refl;
  split = refl;
  one = λ c z z' h. let same : b ≡ c = cc in let not : test c ≡ false = rw (← same) e in rw not refl;
  fate = (some.byte ∷ [], some.byte, (some.meets, refl));
}

pub reads_item : (test : ℕ → Bool) → SomeItem test → (s : List ℕ) → Reads (item test) (IsItem test) s
reads_item test some [] = record {
  outcome = None;
  rest = [];
  front = [];
  is = refl;
  split = refl;
  one = λ b z z' e. absurd cc;
  fate = (some.byte ∷ [], some.byte, (some.meets, refl));
}
reads_item test some (b ∷ s) = item_at test some b s (test b) refl

-- a front and one byte begin with the byte that the whole began with
same_head : (b : ℕ) (s f rest : List ℕ) (c : ℕ) (z : List ℕ) → (b ∷ s) ≡ f ++ rest → rest ≡ c ∷ z → (z' : List ℕ) → (t : List ℕ) × (f ++ (c ∷ z') ≡ b ∷ t)
same_head b s [] rest c z split e z' = (z', let h : (b ∷ s) ≡ c ∷ z = split ∙ e in cc)
same_head b s (d ∷ f) rest c z split e z' = (f ++ (c ∷ z'), cc)

module _ {A : Type 0} (test : ℕ → Bool) (p q : Read A) (G : List ℕ → A → Type 0) where
  pub head_yes : (b : ℕ) (s : List ℕ) → test b ≡ true → Reads p G (b ∷ s) → Reads (on_head test p q) G (b ∷ s)
  head_yes b s e r = record {
    outcome = r.outcome;
    rest = r.rest;
    front = r.front;
    is = rw e r.is;
    split = r.split;
    one = λ c z z' h. let k = same_head b s r.front r.rest c z r.split h z' in rw (k.1, e) (rw k.1 at (r.one c z z' h));
    fate = r.fate;
  }

  pub head_no : (b : ℕ) (s : List ℕ) → test b ≡ false → Reads q G (b ∷ s) → Reads (on_head test p q) G (b ∷ s)
  head_no b s e r = record {
    outcome = r.outcome;
    rest = r.rest;
    front = r.front;
    is = rw e r.is;
    split = r.split;
    one = λ c z z' h. let k = same_head b s r.front r.rest c z r.split h z' in rw (k.1, e) (rw k.1 at (r.one c z z' h));
    fate = r.fate;
  }

  nothing_left : (f rest : List ℕ) (b : ℕ) (z : List ℕ) → ◌≡◌ {A = List ℕ} [] (f ++ rest) → rest ≡ b ∷ z → ⊥
  nothing_left [] rest b z h e = let k : ◌≡◌ {A = List ℕ} [] (b ∷ z) = h ∙ e in cc
  nothing_left (c ∷ f) rest b z h e = cc

  head_end : Reads q G [] → Reads (on_head test p q) G []
  head_end r = record {
    outcome = r.outcome;
    rest = r.rest;
    front = r.front;
    is = r.is;
    split = r.split;
    one = λ c z z' h. absurd (nothing_left r.front r.rest c z r.split h);
    fate = r.fate;
  }

  by_test : (b : ℕ) (s : List ℕ) (v : Bool) → test b ≡ v → (test b ≡ true → Reads p G (b ∷ s)) → Reads q G (b ∷ s) → Reads (on_head test p q) G (b ∷ s)
  by_test b s true e taken passed = head_yes b s e (taken e)
  by_test b s false e taken passed = head_no b s e passed

  pub reads_head : (s : List ℕ) → ((b : ℕ) (t : List ℕ) → test b ≡ true → Reads p G (b ∷ t)) → ((t : List ℕ) → Reads q G t) → Reads (on_head test p q) G s
  reads_head [] taken passed = head_end (passed [])
  reads_head (b ∷ s) taken passed = by_test b s (test b) refl (taken b s) (passed (b ∷ s))

fate_as : {A : Type 0} (G H : List ℕ → A → Type 0) (f : List ℕ) (o : Option A) → ((g : List ℕ) (x : A) → G g x → H g x) → Fate G f o → Fate H f o
fate_as G H f None wide h = (h.0, h.1, wide (f ++ h.0) h.1 h.2)
fate_as G H f (Some x) wide h = wide f x h

-- what reads one grammar reads a wider one
pub reads_as : {A : Type 0} (p : Read A) (G H : List ℕ → A → Type 0) (s : List ℕ) → ((f : List ℕ) (x : A) → G f x → H f x) → Reads p G s → Reads p H s
reads_as p G H s wide r = record {
  outcome = r.outcome;
  rest = r.rest;
  front = r.front;
  is = r.is;
  split = r.split;
  one = r.one;
  fate = fate_as G H r.front r.outcome wide r.fate;
}
