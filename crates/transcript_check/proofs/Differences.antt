-- Where two lists differ first.
use Rattle.std.proofs.Common.{◌≡◌, ℕ, suc, ◌<◌, ◌≤◌, List, [], ◌∷◌, length, Some, None, refl, sym, ◌∙◌, ap, arith, ◌⊎◌, inl, inr}
use Rattle.std.specs.Prelude.{slice_get, unwrap_or}
use Rattle.std.proofs.lemmas.Option.{slice_get_cases, slice_get_past}
use Rattle.transcript_check.specs.Checks.{DifferAt}

-- they are equal before this place
abbrev pub AreSameTo : {A : Type 0} → List A → List A → ℕ → Type 0
AreSameTo xs ys place = (k : ℕ) → k < place → slice_get xs k ≡ slice_get ys k

-- elements that differ
pub differ_here : {A : Type 0} (xs ys : List A) (place : ℕ) (x y : A) → AreSameTo xs ys place → slice_get xs place ≡ Some x → slice_get ys place ≡ Some y → (x ≡ y → ⊥) → DifferAt xs ys place
differ_here xs ys place x y before here there differ = record {
  before = before;
  there = λ e. differ (ap (λ o. unwrap_or o x) (sym here ∙ e ∙ there));
}

-- the second one has ended, or the first
ended_first : {A : Type 0} (xs ys : List A) (place : ℕ) → length xs ≤ place → place < length ys → slice_get xs place ≡ slice_get ys place → ⊥
ended_first xs ys place short long e = elim ((slice_get_cases ys place).1) [
  | inl there ↦ let z : None ≡ Some there.0 = sym (slice_get_past xs place short) ∙ e ∙ there.2 in cc
  | inr past ↦ absurd (omega (arith, long, past.0))
]

pub differ_end : {A : Type 0} (xs ys : List A) (place : ℕ) → AreSameTo xs ys place → (((length xs ≤ place) × (place < length ys)) ⊎ ((length ys ≤ place) × (place < length xs))) → DifferAt xs ys place
differ_end xs ys place before (inl first) = record { before = before; there = λ e. ended_first xs ys place first.0 first.1 e }
differ_end xs ys place before (inr second) = record { before = before; there = λ e. ended_first ys xs place second.0 second.1 (sym e) }

-- as many, and equal place by place
pub same_all : {A : Type 0} (xs ys : List A) → length xs ≡ length ys → AreSameTo xs ys (length xs) → xs ≡ ys
same_all [] [] n same = refl
same_all [] (y ∷ ys) n same = absurd (omega (arith, n))
same_all (x ∷ xs) [] n same = absurd (omega (arith, n))
same_all (x ∷ xs) (y ∷ ys) n same =
    let first : x ≡ y = ap (λ o. unwrap_or o x) (same 0 (omega arith)) in
    let rest : xs ≡ ys = same_all xs ys (omega (arith, n)) (λ k h. same (suc k) (omega (arith, h))) in
    λ i. first i ∷ rest i
