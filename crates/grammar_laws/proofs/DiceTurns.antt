-- A dice text has one answer for every number of turns past its length.
use Rattle.std.proofs.Common.{◌≡◌, ℕ, zero, suc, ◌<◌, ◌≤◌, Bool, true, false, List, [], ◌∷◌, length, Option, Some, None, refl, arith}
use Rattle.std.specs.Prelude.{nat_eq}
use Rattle.dice_parse.specs.declared.parts.Part.{Part}
use Rattle.dice_parse.specs.declared.parts.Term.{Term}
use Rattle.dice_parse.specs.Grammar.{IsDice}
use Rattle.dice_parse.specs.Readers.{part_at, is_sign, more_at, dice_at}
use Rattle.dice_parse.proofs.Words.{term_of, reads_part, reads_dice}
use Rattle.dice_parse.proofs.Turns.{part_shorter}
use Rattle.dice_parse.proofs.Back.{dice_back}
use Rattle.grammar_laws.proofs.Settled.{from_suc}
use Rattle.grammar_laws.proofs.Whole.{SettlesWhole, Told, told}

-- behind a sign and a part, by what is read of the rest
after_part : (n b : ℕ) (s r z : List ℕ) (p : Part) (o : Option (List Term)) → is_sign b ≡ true → part_at s ≡ (Some p, r) → ((turns : ℕ) → n ≤ turns → more_at turns r ≡ (o, z)) → ((x : List Term) → o ≡ Some x → z ≡ [])
    → SettlesWhole (suc n) more_at (b ∷ s)
after_part n b s r z p None e f is ends = record {
  outcome = None;
  rest = z;
  is = from_suc (λ u. more_at u (b ∷ s) ≡ (None, z)) n (λ u le. let k = is u le in rw (e, f, k) refl);
  ends = λ x no. absurd cc;
}
after_part n b s r z p (Some ts) e f is ends = record {
  outcome = Some (term_of (nat_eq 45 b) p ∷ ts);
  rest = z;
  is = from_suc (λ u. more_at u (b ∷ s) ≡ (Some (term_of (nat_eq 45 b) p ∷ ts), z)) n (λ u le. let k = is u le in rw (e, f, k) refl);
  ends = λ x same. ends ts refl;
}

by_part : (n b : ℕ) (s r : List ℕ) (p : Option Part) → is_sign b ≡ true → part_at s ≡ (p, r) → ((q : Part) → p ≡ Some q → SettlesWhole n more_at r) → SettlesWhole (suc n) more_at (b ∷ s)
by_part n b s r None e f more = record {
  outcome = None;
  rest = r;
  is = from_suc (λ u. more_at u (b ∷ s) ≡ (None, r)) n (λ u le. rw (e, f) refl);
  ends = λ x no. absurd cc;
}
by_part n b s r (Some p) e f more = let q = more p refl in after_part n b s r q.rest p q.outcome e f q.is q.ends

by_sign : (n b : ℕ) (s : List ℕ) (v : Bool) → is_sign b ≡ v → ((r : List ℕ) → length r < length s → SettlesWhole n more_at r) → SettlesWhole (suc n) more_at (b ∷ s)
by_sign n b s true e more =
    let q = reads_part s in
    by_part n b s q.rest q.outcome e q.is (λ p same. more q.rest (part_shorter s q.rest p (rw same at q.is)))
by_sign n b s false e more = record {
  outcome = None;
  rest = b ∷ s;
  is = from_suc (λ u. more_at u (b ∷ s) ≡ (None, b ∷ s)) n (λ u le. rw e refl);
  ends = λ x no. absurd cc;
}

more_settles : (n : ℕ) (s : List ℕ) → length s < n → SettlesWhole n more_at s
more_settles zero s lt = absurd (omega arith)
more_settles (suc n) [] lt = record {
  outcome = Some [];
  rest = [];
  is = from_suc (λ u. more_at u [] ≡ (Some [], [])) n (λ u le. refl);
  ends = λ x same. refl;
}
more_settles (suc n) (b ∷ s) lt = by_sign n b s (is_sign b) refl (λ r less. more_settles n r (omega arith))

first_part : (n : ℕ) (s r z : List ℕ) (p : Part) (o : Option (List Term)) → part_at s ≡ (Some p, r) → ((turns : ℕ) → n ≤ turns → more_at turns r ≡ (o, z)) → ((x : List Term) → o ≡ Some x → z ≡ []) → SettlesWhole n dice_at s
unfolding dice_at
first_part n s r z p None e is ends = record { outcome = None; rest = z; is = λ u le. let k = is u le in rw (e, k) refl; ends = λ x no. absurd cc }
first_part n s r z p (Some ts) e is ends = record { outcome = Some (term_of false p ∷ ts); rest = z; is = λ u le. let k = is u le in rw (e, k) refl; ends = λ x same. ends ts refl }

by_first : (s r : List ℕ) (p : Option Part) → part_at s ≡ (p, r) → SettlesWhole (suc (length s)) dice_at s
unfolding dice_at
by_first s r None e = record { outcome = None; rest = r; is = λ u le. rw e refl; ends = λ x no. absurd cc }
by_first s r (Some p) e =
    let less = part_shorter s r p e in
    let q = more_settles (suc (length s)) r (omega arith) in
    first_part (suc (length s)) s r q.rest p q.outcome e q.is q.ends

-- a dice text is spelled and read, or isn't read
pub dice_told : (s : List ℕ) → Told dice_at IsDice s
dice_told s = let q = reads_part s in told dice_at IsDice reads_dice dice_back s (by_first s q.rest q.outcome q.is)
