-- Laws of common ways to combine readers.
use Rattle.std.proofs.Common.{◌≡◌, ℕ, true, List, [], ◌++◌, refl, append-nil}
use Rattle.std.specs.Prelude.{nat_eq}
use Rattle.reading.specs.Reading.{Read, done, bind}
use Rattle.reading.proofs.Laws.{Reads, Sequence, reads_done, reads_bind, SomeItem}

-- nothing is read, and the value is x
abbrev pub IsNothing : {A : Type 0} → A → List ℕ → A → Type 0
IsNothing {A} x s y = (s ≡ []) × (y ≡ x)

pub reads_nothing : {A : Type 0} (x : A) (s : List ℕ) → Reads (done x) (IsNothing x) s
reads_nothing x s = reads_done (IsNothing x) x s (refl, refl)

-- a byte that is the wanted one
pub only : (b : ℕ) → nat_eq b b ≡ true → SomeItem (nat_eq b)
only b h = record { byte = b; meets = h }

-- a word of G, whose value is f's of G's
abbrev pub Wrapped : {A B : Type 0} → (A → B) → (List ℕ → A → Type 0) → List ℕ → B → Type 0
Wrapped {A} f G s y = (x : A) × G s x × (y ≡ f x)

wraps : {A B : Type 0} (f : A → B) (G : List ℕ → A → Type 0) → Sequence G (λ x. IsNothing (f x)) (Wrapped f G)
wraps f G = record {
  then = λ a b x y g h. (x, (let n = h.0 in rw (n, append-nil) g), h.1);
  ends = λ a x g. ([], f x, (refl, refl));
}

pub reads_wrapped : {A B : Type 0} (f : A → B) (p : Read A) (G : List ℕ → A → Type 0) (s : List ℕ) → Reads p G s → Reads (bind p (λ x. done (f x))) (Wrapped f G) s
reads_wrapped f p G s r = reads_bind p (λ x. done (f x)) G (λ x. IsNothing (f x)) (Wrapped f G) (wraps f G) s r (λ x. reads_nothing (f x) _)

-- one word behind another
abbrev pub Then : {A B : Type 0} → (List ℕ → A → Type 0) → (A → List ℕ → B → Type 0) → List ℕ → B → Type 0
Then {A} G H s y = (a : List ℕ) × (b : List ℕ) × (x : A) × (s ≡ a ++ b) × G a x × H x b y

pub reads_then : {A B : Type 0} (p : Read A) (k : A → Read B) (G : List ℕ → A → Type 0) (H : A → List ℕ → B → Type 0) (s : List ℕ)
    → ((x : A) → (b : List ℕ) × (y : B) × H x b y)
    → Reads p G s → ((x : A) (r : List ℕ) → Reads (k x) (H x) r) → Reads (bind p k) (Then G H) s
reads_then p k G H s ends first second =
    reads_bind p k G H (Then G H) (record { then = λ a b x y g h. (a, b, x, refl, g, h); ends = λ a x g. ends x }) s first (λ x. second x _)
