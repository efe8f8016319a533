-- Terms are read one by one, and those so far stand in front of what is read of the rest.
use Rattle.std.proofs.Common.{◌≡◌, ℕ, suc, ◌+◌, ◌-◌, ◌<◌, ◌≤◌, Bool, true, false, List, [], ◌∷◌, ◌++◌, length, Option, Some, None, refl, sym, ap, ◌∙◌, append_assoc, append-nil, arith, ◌≢◌}
use Rattle.std.proofs.lemmas.List.{length-append}
use Rattle.std.specs.Prelude.{nat_eq}
use Rattle.dice_parse.specs.declared.parts.Part.{Part}
use Rattle.dice_parse.specs.declared.parts.Part.TheVariants.{Group as AGroup, Number as ANumber}
use Rattle.dice_parse.specs.declared.parts.Term.{Term}
use Rattle.reading.specs.Reading.{Read, done, carry, bind, item}
use Rattle.dice_parse.specs.Grammar.{IsPart}
use Rattle.dice_parse.specs.Readers.{part_at, is_sign, more_at, dice_at}
use Rattle.reading.proofs.Laws.{Fate}
use Rattle.reading.proofs.Pairs.{same_pair, none_some_pair, got}
use Rattle.dice_parse.proofs.Words.{term_of, reads_part}

abbrev pub join_front : List Term → Option (List Term) → Option (List Term)
join_front front None = None
join_front front (Some ts) = Some (front ++ ts)

abbrev pub with_front : List Term → Option (List Term) × List ℕ → Option (List Term) × List ℕ
with_front front o = got (join_front front o.0) o.1

carry_front : (t : Term) (o : Option (List Term)) (r : List ℕ) → carry (λ ts. done (t ∷ ts)) o r ≡ got (join_front (t ∷ []) o) r
carry_front t None r = refl
carry_front t (Some ts) r = refl

join_twice : (front : List Term) (t : Term) (o : Option (List Term)) → join_front front (join_front (t ∷ []) o) ≡ join_front (front ++ (t ∷ [])) o
join_twice front t None = refl
join_twice front t (Some ts) = ap Some (sym (append_assoc front (t ∷ []) ts))

nonempty : (f : List ℕ) (x : Part) → IsPart f x → 0 < length f
nonempty [] (ANumber n) h = absurd h
nonempty (b ∷ f) (ANumber n) h = omega arith
nonempty f (AGroup g) h = rw h.parts (omega (arith, length-append h.count (100 ∷ h.die)))

pub part_shorter : (s r : List ℕ) (x : Part) → part_at s ≡ (Some x, r) → length r < length s
part_shorter s r x e =
    let q = reads_part s in
    let k = same_pair q.outcome (Some x) q.rest r (sym q.is ∙ e) in
    let some = k.0 in
    let fate : Fate IsPart q.front (Some x) = rw some at q.fate in
    let len : length s ≡ length q.front + length q.rest = ap length q.split ∙ length-append q.front q.rest in
    let same : length q.rest ≡ length r = ap length k.1 in
    let more = nonempty q.front x fate in
    omega arith

pub dice_first : (n : ℕ) (s r : List ℕ) (x : Part) → part_at s ≡ (Some x, r) → dice_at n s ≡ with_front (term_of false x ∷ []) (more_at n r)
unfolding dice_at
dice_first n s r x e = rw e (carry_front (term_of false x) (more_at n r).0 (more_at n r).1)

pub dice_none : (n : ℕ) (s r : List ℕ) → part_at s ≡ (None, r) → dice_at n s ≡ (None, r)
unfolding dice_at
dice_none n s r e = rw e refl

abbrev pub sign_at : Read Bool
sign_at = bind (item is_sign) (λ b. done (nat_eq 45 b))

abbrev rest_of : ℕ → ℕ → Read (List Term)
rest_of n b = bind part_at (λ part. bind (more_at n) (λ ts. done (term_of (nat_eq 45 b) part ∷ ts)))

step_by : (n c : ℕ) (s r1 r2 : List ℕ) (minus : Bool) (x : Part) (v : Bool) → is_sign c ≡ v → sign_at (c ∷ s) ≡ (Some minus, r1) → part_at r1 ≡ (Some x, r2) → more_at (suc n) (c ∷ s) ≡ with_front (term_of minus x ∷ []) (more_at n r2)
step_by n c s r1 r2 minus x true t e p =
    let h : got (Some (nat_eq 45 c)) s ≡ got (Some minus) r1 = rw t at e in
    let k = same_pair (Some (nat_eq 45 c)) (Some minus) s r1 h in
    let m : nat_eq 45 c ≡ minus = cc in
    let rest = k.1 in
    rw (t, rest, p, m) (carry_front (term_of minus x) (more_at n r2).0 (more_at n r2).1)
step_by n c s r1 r2 minus x false t e p = absurd (none_some_pair minus r1 (c ∷ s) (rw t at e))

pub more_step : (n : ℕ) (s r1 r2 : List ℕ) (minus : Bool) (x : Part) → sign_at s ≡ (Some minus, r1) → part_at r1 ≡ (Some x, r2) → more_at (suc n) s ≡ with_front (term_of minus x ∷ []) (more_at n r2)
more_step n [] r1 r2 minus x e p = absurd (none_some_pair minus r1 [] e)
more_step n (c ∷ s) r1 r2 minus x e p = step_by n c s r1 r2 minus x (is_sign c) refl e p

no_part_by : (n c : ℕ) (s r1 r2 : List ℕ) (minus : Bool) (v : Bool) → is_sign c ≡ v → sign_at (c ∷ s) ≡ (Some minus, r1) → part_at r1 ≡ (None, r2) → more_at (suc n) (c ∷ s) ≡ (None, r2)
no_part_by n c s r1 r2 minus true t e p =
    let h : got (Some (nat_eq 45 c)) s ≡ got (Some minus) r1 = rw t at e in
    let rest = (same_pair (Some (nat_eq 45 c)) (Some minus) s r1 h).1 in
    rw (t, rest, p) refl
no_part_by n c s r1 r2 minus false t e p = absurd (none_some_pair minus r1 (c ∷ s) (rw t at e))

pub more_no_part : (n : ℕ) (s r1 r2 : List ℕ) (minus : Bool) → sign_at s ≡ (Some minus, r1) → part_at r1 ≡ (None, r2) → more_at (suc n) s ≡ (None, r2)
more_no_part n [] r1 r2 minus e p = absurd (none_some_pair minus r1 [] e)
more_no_part n (c ∷ s) r1 r2 minus e p = no_part_by n c s r1 r2 minus (is_sign c) refl e p

no_sign_by : (n c : ℕ) (s r : List ℕ) (v : Bool) → is_sign c ≡ v → sign_at (c ∷ s) ≡ (None, r) → more_at (suc n) (c ∷ s) ≡ (None, r)
no_sign_by n c s r true t e = let h : got (Some (nat_eq 45 c)) s ≡ got None r = rw t at e in absurd (none_some_pair (nat_eq 45 c) s r (sym h))
no_sign_by n c s r false t e = let h : got {A = Bool} None (c ∷ s) ≡ got None r = rw t at e in let rest = (same_pair {A = Bool} None None (c ∷ s) r h).1 in rw (t, rest) refl

pub more_no_sign : (n : ℕ) (s r : List ℕ) → s ≢ [] → sign_at s ≡ (None, r) → more_at (suc n) s ≡ (None, r)
more_no_sign n [] r ne e = absurd (ne refl)
more_no_sign n (c ∷ s) r ne e = no_sign_by n c s r (is_sign c) refl e

shorter_by : (c : ℕ) (s r : List ℕ) (minus : Bool) (v : Bool) → is_sign c ≡ v → sign_at (c ∷ s) ≡ (Some minus, r) → length r < suc (length s)
shorter_by c s r minus true t e = let h : got (Some (nat_eq 45 c)) s ≡ got (Some minus) r = rw t at e in let len = ap length (same_pair (Some (nat_eq 45 c)) (Some minus) s r h).1 in omega arith
shorter_by c s r minus false t e = absurd (none_some_pair minus r (c ∷ s) (rw t at e))

pub sign_shorter : (s r : List ℕ) (minus : Bool) → sign_at s ≡ (Some minus, r) → length r < length s
sign_shorter [] r minus e = absurd (none_some_pair minus r [] e)
sign_shorter (c ∷ s) r minus e = shorter_by c s r minus (is_sign c) refl e

-- the invariant of the loop over terms: so many are read
pub record SoFar (whole rest : List ℕ) (terms : List Term) : Type 0 where
  pub told : (turns n : ℕ) → turns + 1 ≡ length terms + n → dice_at turns whole ≡ with_front terms (more_at n rest)
  pub room : length terms + length rest ≤ length whole

pub so_far_first : (s r : List ℕ) (x : Part) → part_at s ≡ (Some x, r) → SoFar s r (term_of false x ∷ [])
so_far_first s r x e = record {
  told = λ turns n h. let same : turns ≡ n = omega arith in rw same (dice_first n s r x e);
  room = let k = part_shorter s r x e in omega arith;
}

pub so_far_next : (whole s r1 r2 : List ℕ) (terms : List Term) (minus : Bool) (x : Part) → SoFar whole s terms → sign_at s ≡ (Some minus, r1) → part_at r1 ≡ (Some x, r2) → SoFar whole r2 (terms ++ (term_of minus x ∷ []))
so_far_next whole s r1 r2 terms minus x h e p = record {
  told = λ turns n k.
      let len = length-append terms (term_of minus x ∷ []) in
      let a = h.told turns (suc n) (omega arith) in
      let b = more_step n s r1 r2 minus x e p in
      a ∙ rw b (ap (λ o. got o (more_at n r2).1) (join_twice terms (term_of minus x) (more_at n r2).0));
  room = let k = part_shorter r1 r2 x p in let l = sign_shorter s r1 minus e in let len = length-append terms (term_of minus x ∷ []) in let m = h.room in omega arith;
}

ends_with : (whole s r : List ℕ) (terms : List Term) (o : Option (List Term)) → SoFar whole s terms → ((n : ℕ) → more_at (suc n) s ≡ got o r) → (turns : ℕ) → length whole < turns → dice_at turns whole ≡ got (join_front terms o) r
ends_with whole s r terms o h e turns lt =
    let m = h.room in
    let a = h.told turns (suc (turns - length terms)) (omega arith) in
    a ∙ rw (e (turns - length terms)) refl

pub so_far_end : (whole s : List ℕ) (terms : List Term) → SoFar whole s terms → s ≡ [] → (turns : ℕ) → length whole < turns → dice_at turns whole ≡ got (Some terms) []
so_far_end whole s terms h e turns lt = ends_with whole s [] terms (Some []) h (λ n. rw e refl) turns lt ∙ ap (λ ts. got (Some ts) []) (append-nil terms)

pub so_far_no_sign : (whole s r : List ℕ) (terms : List Term) → SoFar whole s terms → s ≢ [] → sign_at s ≡ (None, r) → (turns : ℕ) → length whole < turns → dice_at turns whole ≡ (None, r)
so_far_no_sign whole s r terms h ne e = ends_with whole s r terms None h (λ n. more_no_sign n s r ne e)

pub so_far_no_part : (whole s r1 r2 : List ℕ) (terms : List Term) (minus : Bool) → SoFar whole s terms → sign_at s ≡ (Some minus, r1) → part_at r1 ≡ (None, r2) → (turns : ℕ) → length whole < turns → dice_at turns whole ≡ (None, r2)
so_far_no_part whole s r1 r2 terms minus h e p = ends_with whole s r2 terms None h (λ n. more_no_part n s r1 r2 minus e p)
