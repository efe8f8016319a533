-- Lists in an order, after one more key is put at its place.
use Rattle.std.proofs.Common.{◌≡◌, suc, Bool, true, false, cond, List, [], ◌∷◌, refl, ap, ◌∙◌, arith}
use Rattle.std.specs.Prelude.{All, AllPairs}
use Rattle.std.specs.List.{filter}
use Rattle.std.specs.BTreeSet.{insert_key}
use Rattle.std.specs.declared.cmp.Ordering.{Ordering}
use Rattle.std.specs.declared.cmp.Ordering.TheVariants.{Less, Equal, Greater}
use Rattle.std.specs.Ordering.{match_ordering}
use Rattle.std.proofs.lemmas.Bool.{both_ways}
use Rattle.std.proofs.lemmas.List.Elements.{All-head, All-tail}
use Rattle.std.proofs.lemmas.List.Kept.{AllPairs-cons}
use Rattle.std.proofs.lemmas.Map.Views.{All-insert_key}

-- ---- filters

pub none_pass : {X : Type 0} (p : X → Bool) (xs : List X) → All (λ x. p x ≡ false) xs → filter p xs ≡ []
none_pass p [] far = refl
none_pass p (x ∷ xs) far =
    ap (λ b. cond b (x ∷ filter p xs) (filter p xs)) (All-head (λ y. p y ≡ false) x xs far) ∙ none_pass p xs (All-tail (λ y. p y ≡ false) x xs far)

pub filter_twice : {X : Type 0} (p : X → Bool) (xs : List X) → filter p (filter p xs) ≡ filter p xs
filter_twice p [] = refl
filter_twice p (x ∷ xs) = by (p x) refl (filter_twice p xs)
  where
    by : (b : Bool) → p x ≡ b → filter p (filter p xs) ≡ filter p xs → filter p (cond b (x ∷ filter p xs) (filter p xs)) ≡ cond b (x ∷ filter p xs) (filter p xs)
    by true on rest = ap (λ b. cond b (x ∷ filter p (filter p xs)) (filter p (filter p xs))) on ∙ ap (λ ys. x ∷ ys) rest
    by false off rest = rest

-- ---- the new key k

module _ {X : Type 0} (cmp : X → X → Ordering) (k : X) where
  -- a test that the key fails finds what it found before
  pub others_put : (p : X → Bool) → p k ≡ false → (xs : List X) → filter p (insert_key cmp xs k) ≡ filter p xs
  others_put p off [] = ap (λ b. cond b (k ∷ []) []) off
  others_put p off (x ∷ xs) = by (cmp k x) (others_put p off xs)
    where
      by : (r : Ordering) → filter p (insert_key cmp xs k) ≡ filter p xs → filter p (match_ordering r (k ∷ x ∷ xs) (x ∷ xs) (x ∷ insert_key cmp xs k)) ≡ filter p (x ∷ xs)
      by Less rest = ap (λ b. cond b (k ∷ filter p (x ∷ xs)) (filter p (x ∷ xs))) off
      by Equal rest = refl
      by Greater rest = ap (λ ys. cond (p x) (x ∷ ys) ys) rest

  -- a test that it passes, and that passes for what ties with it, finds it alone, where it found nothing before
  pub own_put : (p : X → Bool) → p k ≡ true → ((x : X) → cmp k x ≡ Equal → p x ≡ true) → (xs : List X) → All (λ x. p x ≡ false) xs → filter p (insert_key cmp xs k) ≡ k ∷ []
  own_put p on tied [] far = ap (λ b. cond b (k ∷ []) []) on
  own_put p on tied (x ∷ xs) far = by (cmp k x) refl (own_put p on tied xs (All-tail (λ y. p y ≡ false) x xs far))
    where
      first : p x ≡ false
      first = All-head (λ y. p y ≡ false) x xs far

      by : (r : Ordering) → cmp k x ≡ r → filter p (insert_key cmp xs k) ≡ k ∷ [] → filter p (match_ordering r (k ∷ x ∷ xs) (x ∷ xs) (x ∷ insert_key cmp xs k)) ≡ k ∷ []
      by Less e rest = ap (λ b. cond b (k ∷ filter p (x ∷ xs)) (filter p (x ∷ xs))) on ∙ ap (λ ys. k ∷ ys) (none_pass p (x ∷ xs) far)
      by Equal e rest = absurd (both_ways (p x) first (tied x e))
      by Greater e rest = ap (λ b. cond b (x ∷ filter p (insert_key cmp xs k)) (filter p (insert_key cmp xs k))) first ∙ rest

  -- keys that are apart stay so, where the new one is apart from each
  pub apart_put : (R : X → X → Type 0) → ((x y : X) → R x y → R y x) → (xs : List X) → All (R k) xs → AllPairs R xs → AllPairs R (insert_key cmp xs k)
  apart_put R flips [] far apart = AllPairs-cons R k [] far apart
  apart_put R flips (x ∷ xs) far apart =
      let rest : AllPairs R xs = λ i j d below within. apart (suc i) (suc j) d (omega arith) (omega arith) in
      let head : All (R x) xs = λ j d within. apart 0 (suc j) d (omega arith) (omega arith) in
      by (cmp k x) head (apart_put R flips xs (All-tail (R k) x xs far) rest)
    where
      by : (r : Ordering) → All (R x) xs → AllPairs R (insert_key cmp xs k) → AllPairs R (match_ordering r (k ∷ x ∷ xs) (x ∷ xs) (x ∷ insert_key cmp xs k))
      by Less head more = AllPairs-cons R k (x ∷ xs) far apart
      by Equal head more = apart
      by Greater head more = AllPairs-cons R x (insert_key cmp xs k) (All-insert_key cmp k (R x) xs head (flips k x (All-head (R k) x xs far))) more
