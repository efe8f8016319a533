-- Numbers as they are read, against the grammar's.
use Rattle.std.proofs.Common.{◌≡◌, ℕ, zero, suc, ◌+◌, ◌-◌, ◌*◌, ◌≤◌, Bool, true, false, cond, eqb, List, [], ◌∷◌, ◌++◌, length, Option, Some, None, refl, sym, ap, ◌∙◌, arith, inl, inr}
use Rattle.std.proofs.lemmas.Bool.Decides.{nat_tests}
use Rattle.std.specs.Prelude.{nat_eq}
use Rattle.reading.specs.Reading.{item}
use Rattle.reading.specs.Number.{IsDigit, AreDigits, value_after, IsNumber, is_digit, digits_at, number_at}
use Rattle.reading.proofs.Pairs.{got, none_some_pair, same_pair, Free}
use Rattle.reading.proofs.Laws.{Fate, Reads, Sequence, reads_bind, reads_item, IsItem, SomeItem}

pub digit_means : (b : ℕ) → is_digit b ≡ true → IsDigit b
digit_means b h = grind (arith, nat_tests)

pub means_digit : (b : ℕ) → IsDigit b → is_digit b ≡ true
means_digit b h = grind (arith, nat_tests)

next_by : (most acc c : ℕ) (s : List ℕ) (b : ℕ) (r : List ℕ) (v : Bool) → cond v (got (Some c) s) (got None (c ∷ s)) ≡ (Some b, r) → cond v (digits_at most (10 * acc + (c - 48)) s) (got (Some acc) (c ∷ s)) ≡ digits_at most (10 * acc + (b - 48)) r
next_by most acc c s b r true h = let e = same_pair (Some c) (Some b) s r h in let same : c ≡ b = cc in let rest = e.1 in rw (same, rest) refl
next_by most acc c s b r false h = absurd (none_some_pair b r (c ∷ s) h)

pub digits_next : (most acc : ℕ) (s : List ℕ) (b : ℕ) (r : List ℕ) → item is_digit s ≡ (Some b, r) → digits_at (suc most) acc s ≡ digits_at most (10 * acc + (b - 48)) r
digits_next most acc [] b r e = absurd (none_some_pair b r [] e)
digits_next most acc (c ∷ s) b r e = next_by most acc c s b r (is_digit c) e

stop_by : (most acc c : ℕ) (s : List ℕ) (r : List ℕ) (v : Bool) → cond v (got (Some c) s) (got None (c ∷ s)) ≡ (None, r) → cond v (digits_at most (10 * acc + (c - 48)) s) (got (Some acc) (c ∷ s)) ≡ got (Some acc) r
stop_by most acc c s r true h = absurd (none_some_pair c s r (sym h))
stop_by most acc c s r false h = let e = same_pair None None (c ∷ s) r h in rw e.1 refl

stop_zero : (acc c : ℕ) (s r : List ℕ) (v : Bool) → cond v (got (Some c) s) (got None (c ∷ s)) ≡ (None, r) → ◌≡◌ {A = Option ℕ × List ℕ} (Some acc, c ∷ s) (Some acc, r)
stop_zero acc c s r true h = absurd (none_some_pair c s r (sym h))
stop_zero acc c s r false h = let e = same_pair {A = ℕ} None None (c ∷ s) r h in rw e.1 refl

pub digits_stop : (most acc : ℕ) (s : List ℕ) (r : List ℕ) → item is_digit s ≡ (None, r) → digits_at most acc s ≡ (Some acc, r)
digits_stop zero acc [] r e = let h = same_pair {A = ℕ} None None [] r e in rw h.1 refl
digits_stop zero acc (c ∷ s) r e = stop_zero acc c s r (is_digit c) e
digits_stop (suc most) acc [] r e = let h = same_pair {A = ℕ} None None [] r e in rw h.1 refl
digits_stop (suc most) acc (c ∷ s) r e = stop_by most acc c s r (is_digit c) e

-- at most so many digits, with their value
abbrev pub IsDigits : ℕ → ℕ → List ℕ → ℕ → Type 0
IsDigits most acc s n = AreDigits s × (length s ≤ most) × (n ≡ value_after acc s)

fate_more : (most acc b : ℕ) (f : List ℕ) (o : Option ℕ) → IsDigit b → Fate (IsDigits most (10 * acc + (b - 48))) f o → Fate (IsDigits (suc most) acc) (b ∷ f) o
fate_more most acc b f None d h = (h.0, h.1, ((d, h.2.0), omega (arith, h.2.1), h.2.2))
fate_more most acc b f (Some n) d h = ((d, h.0), omega (arith, h.1), h.2)

digits_by : (most acc b : ℕ) (s : List ℕ) (v : Bool) → is_digit b ≡ v → Reads (digits_at most (10 * acc + (b - 48))) (IsDigits most (10 * acc + (b - 48))) s → Reads (digits_at (suc most) acc) (IsDigits (suc most) acc) (b ∷ s)
digits_by most acc b s true e r = record {
  outcome = r.outcome;
  rest = r.rest;
  front = b ∷ r.front;
  is = rw e r.is;
  split = ap (λ (w : List ℕ). b ∷ w) r.split;
  one = λ c z z' h. rw e (r.one c z z' h);
  fate = fate_more most acc b r.front r.outcome (digit_means b e) r.fate;
}
digits_by most acc b s false e r = record {
  outcome = Some acc;
  rest = b ∷ s;
  front = [];
  is = rw e refl;
  split = refl;
  one = λ c z z' h. let same : b ≡ c = cc in let not_digit : is_digit c ≡ false = rw (← same) e in rw not_digit refl;
  fate = (tt, omega arith, refl);
}

pub reads_digits : (most acc : ℕ) (s : List ℕ) → Reads (digits_at most acc) (IsDigits most acc) s
reads_digits zero acc s = record {
  outcome = Some acc;
  rest = s;
  front = [];
  is = refl;
  split = refl;
  one = λ b z z' e. refl;
  fate = (tt, omega arith, refl);
}
reads_digits (suc most) acc [] = record {
  outcome = Some acc;
  rest = [];
  front = [];
  is = refl;
  split = refl;
  one = λ b z z' e. absurd cc;
  fate = (tt, omega arith, refl);
}
reads_digits (suc most) acc (b ∷ s) = digits_by most acc b s (is_digit b) refl (reads_digits most (10 * acc + (b - 48)) s)

pub digit_item : SomeItem is_digit
digit_item = record { byte = 48; meets = refl }

module _ (further : ℕ) where
  lead_by : (b : ℕ) (s : List ℕ) (n : ℕ) (v : Bool) → eqb b 48 ≡ v → IsDigit b → IsDigits (cond v 0 further) (b - 48) s n → IsNumber further (b ∷ s) n
  lead_by b [] n true e d h = let zero-is : b ≡ 48 = grind (arith, nat_tests) in inl (zero-is, refl, h.2 ∙ rw zero-is refl)
  lead_by b (c ∷ s) n true e d h = absurd (omega (arith, h.1))
  lead_by b s n false e d h = let other : 49 ≤ b = grind (arith, nat_tests) in inr (other, d.1, h.0, h.1, h.2)

  number_joins : Sequence (IsItem is_digit) (λ b. IsDigits (cond (nat_eq b 48) 0 further) (b - 48)) (IsNumber further)
  number_joins = record {
    then = λ a s b n g h. rw g.1 (lead_by b s n (nat_eq b 48) refl (digit_means b g.0) h);
    ends = λ a b g. ([], b - 48, (tt, omega arith, refl));
  }

  pub reads_number : (s : List ℕ) → Reads (number_at further) (IsNumber further) s
  unfolding number_at
  reads_number s = reads_bind (item is_digit) (λ b. digits_at (cond (nat_eq b 48) 0 further) (b - 48)) (IsItem is_digit) (λ b. IsDigits (cond (nat_eq b 48) 0 further) (b - 48)) (IsNumber further) number_joins s
      (reads_item is_digit digit_item s) (λ b. reads_digits (cond (nat_eq b 48) 0 further) (b - 48) _)

  pub number_zero : IsNumber further (48 ∷ []) 0
  number_zero = inl (refl, refl, refl)

  -- a number begins with a digit
  pub lead_digit : (b : ℕ) (s : List ℕ) (n : ℕ) → IsNumber further (b ∷ s) n → is_digit b ≡ true
  lead_digit b s n (inl (e, f, v)) = rw e refl
  lead_digit b s n (inr (lo, hi, d, l, v)) = means_digit b (omega arith, hi)

pub digits_back : (most acc : ℕ) (f r : List ℕ) → AreDigits f → length f ≤ most → Free is_digit r → digits_at most acc (f ++ r) ≡ (Some (value_after acc f), r)
digits_back zero acc [] r d l h = refl
digits_back zero acc (c ∷ f) r d l h = absurd (omega arith)
digits_back (suc most) acc [] [] d l h = refl
digits_back (suc most) acc [] (b ∷ r) d l h = rw h refl
digits_back (suc most) acc (c ∷ f) r d l h = let e = means_digit c d.0 in rw e (digits_back most (10 * acc + (c - 48)) f r d.1 (omega arith) h)

-- a number is read again, where no digit follows it
pub number_back : (further : ℕ) (f r : List ℕ) (n : ℕ) → IsNumber further f n → Free is_digit r → number_at further (f ++ r) ≡ (Some n, r)
unfolding number_at
number_back further [] r n h free = absurd h
number_back further (b ∷ s) r n (inl (e, f, v)) free = rw (e, f, v) refl
number_back further (b ∷ s) r n (inr (lo, hi, d, l, v)) free =
    let e : is_digit b ≡ true = means_digit b (omega arith, hi) in
    let z : nat_eq b 48 ≡ false = grind (arith, nat_tests) in
    rw (e, z, v) (digits_back further (b - 48) s r d l free)
