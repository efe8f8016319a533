-- Outcomes with the bytes after them, taken apart.
use Rattle.std.proofs.Common.{◌≡◌, ℕ, Bool, true, false, ◌||◌, List, [], ◌∷◌, Option, Some, None, refl, ap, arith}
use Rattle.std.proofs.lemmas.Bool.Decides.{nat_tests}
use Rattle.std.specs.Prelude.{nat_eq}
use Rattle.reading.specs.Reading.{Read, done, on_head, item}

abbrev pub got : {A : Type 0} → Option A → List ℕ → Option A × List ℕ
got o s = (o, s)

pub none_some_pair : {A : Type 0} (x : A) (r s : List ℕ) → ◌≡◌ {A = Option A × List ℕ} (None, s) (Some x, r) → ⊥
none_some_pair {A} x r s e = let h : ◌≡◌ {A = Option A} None (Some x) = ap (λ (p : Option A × List ℕ). p.0) e in absurd cc

pub same_pair : {A : Type 0} (x y : Option A) (r s : List ℕ) → ◌≡◌ {A = Option A × List ℕ} (x, r) (y, s) → (x ≡ y) × (r ≡ s)
same_pair {A} x y r s e = (ap (λ (p : Option A × List ℕ). p.0) e, ap (λ (p : Option A × List ℕ). p.1) e)

pub eq_means : (a b : ℕ) → nat_eq a b ≡ true → b ≡ a
eq_means a b h = grind (arith, nat_tests)

pub or_left : (x y : Bool) → x || y ≡ false → x ≡ false
or_left true y h = absurd cc
or_left false y h = refl

pub or_right : (x y : Bool) → x || y ≡ false → y ≡ false
or_right true y h = absurd cc
or_right false y h = h

-- no byte that meets the test comes next
abbrev pub Free : (ℕ → Bool) → List ℕ → Type 0
Free test [] = Unit {0}
Free test (b ∷ s) = test b ≡ false

pub head_free : {A : Type 0} (test : ℕ → Bool) (p : Read A) (x : A) (r : List ℕ) → Free test r → on_head test p (done x) r ≡ (Some x, r)
head_free test p x [] h = refl
head_free test p x (b ∷ r) h = rw h refl

meets_by : (test : ℕ → Bool) (c : ℕ) (s : List ℕ) (b : ℕ) (r : List ℕ) (v : Bool) → test c ≡ v → item test (c ∷ s) ≡ (Some b, r) → test b ≡ true
meets_by test c s b r true t h =
    let k : got (Some c) s ≡ got (Some b) r = rw t at h in
    let e = same_pair (Some c) (Some b) s r k in
    let same : c ≡ b = cc in
    rw (← same) t
meets_by test c s b r false t h = absurd (none_some_pair b r (c ∷ s) (rw t at h))

-- a byte that was taken meets the test
pub item_meets : (test : ℕ → Bool) (s : List ℕ) (b : ℕ) (r : List ℕ) → item test s ≡ (Some b, r) → test b ≡ true
item_meets test [] b r e = absurd (none_some_pair b r [] e)
item_meets test (c ∷ s) b r e = meets_by test c s b r (test c) refl e
