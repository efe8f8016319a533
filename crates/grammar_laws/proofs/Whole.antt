-- Readers of whole texts: what they answer from some number of turns on is what the grammar says.
use Rattle.std.proofs.Common.{◌≡◌, ℕ, suc, ◌<◌, ◌≤◌, Bool, true, false, nat_lt, List, [], length, Option, Some, None, refl, arith, inl, inr, ◌⊎◌}
use Rattle.std.proofs.lemmas.Bool.Decides.{nat_tests}
use Rattle.reading.specs.Reading.{Read, IsLongest}
use Rattle.reading.proofs.Laws.{Reads}
use Rattle.reading.proofs.Longest.{found}

-- from n turns on this is the answer of s; what is read is all of it
pub record SettlesWhole {A : Type 0} (n : ℕ) (read : ℕ → Read A) (s : List ℕ) : Type 0 where
  pub outcome : Option A
  pub rest : List ℕ
  pub is : (turns : ℕ) → n ≤ turns → read turns s ≡ (outcome, rest)
  pub ends : (x : A) → outcome ≡ Some x → rest ≡ []

-- the text is spelled and read, or isn't read
abbrev pub Told : {A : Type 0} → (ℕ → Read A) → (List ℕ → A → Type 0) → List ℕ → Type 0
Told {A} read G s = ((x : A) × G s x × ((turns : ℕ) → length s < turns → read turns s ≡ (Some x, []))) ⊎ ((r : List ℕ) × ((turns : ℕ) → length s < turns → read turns s ≡ (None, r)))

module _ {A : Type 0} (read : ℕ → Read A) (G : List ℕ → A → Type 0) (reads : (turns : ℕ) (s : List ℕ) → Reads (read turns) G s)
    (back : (turns : ℕ) (f : List ℕ) (x : A) → G f x → length f < turns → read turns f ≡ (Some x, [])) (s : List ℕ) where
  told_by : (o : Option A) (r : List ℕ) → ((turns : ℕ) → length s < turns → read turns s ≡ (o, r)) → ((x : A) → o ≡ Some x → r ≡ []) → Told read G s
  told_by None r is ends = inr (r, is)
  told_by (Some x) r is ends =
      let all : (turns : ℕ) → length s < turns → read turns s ≡ (Some x, []) = λ turns lt. rw (← ends x refl) (is turns lt) in
      inl (x, found read G reads back s x (suc (length s)) (all (suc (length s)) (omega arith)), all)

  pub told : SettlesWhole (suc (length s)) read s → Told read G s
  told q = told_by q.outcome q.rest (λ turns lt. q.is turns (omega arith)) q.ends

-- a text has one longest front that begins some text of the grammar
pub longest_same : {A : Type 0} (G : List ℕ → A → Type 0) (s : List ℕ) (a b : ℕ) → IsLongest G s a → IsLongest G s b → a ≡ b
longest_same G s a b g h = by_order (nat_lt a b) (nat_lt b a) refl refl
  where
    by_order : (v w : Bool) → nat_lt a b ≡ v → nat_lt b a ≡ w → a ≡ b
    by_order true w e f = let less : a < b = grind (arith, nat_tests) in absurd (g.no_more b less h.within h.begins)
    by_order false true e f = let less : b < a = grind (arith, nat_tests) in absurd (h.no_more a less g.within g.begins)
    by_order false false e f = grind (arith, nat_tests)
