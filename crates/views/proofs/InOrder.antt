-- What stays in the order of a key.
use Rattle.std.proofs.Common.{◌≡◌, Bool, true, false, cond, ◌&&◌, List, [], ◌∷◌, Some, map, refl, sym, ◌∙◌, ap}
use Rattle.std.specs.Prelude.{All}
use Rattle.std.specs.List.{filter, find}
use Rattle.std.specs.declared.cmp.Ordering.{Ordering}
use Rattle.std.specs.declared.cmp.Ordering.TheVariants.{Less, Equal, Greater}
use Rattle.std.specs.Ordering.{eq_by_cmp, is_eq, is_lt, ordering_reverse}
use Rattle.std.specs.Cmp.{IsTotalOrder, tied_itself}
use Rattle.std.specs.FinMap.Entries.{below_all, is_sorted}
use Rattle.std.proofs.lemmas.List.Elements.{All-nil, All-cons, All-head, All-tail}
use Rattle.views.specs.Order.{keyed, at, in_order}

pub both : (a b : Bool) → a ≡ true → b ≡ true → (a && b) ≡ true
both true b e f = f
both false b e f = cc

pub first : (a b : Bool) → (a && b) ≡ true → a ≡ true
first true b e = refl
first false b e = cc

pub second : (a b : Bool) → (a && b) ≡ true → b ≡ true
second true b e = e
second false b e = cc

pub less : (r : Ordering) → is_lt r ≡ true → r ≡ Less
less Less e = refl
less Equal e = cc
less Greater e = cc

-- a list of entries is in the order of their keys
pub in_order-entries : {K V : Type 0} (R : K → K → Ordering) (es : List (K × V)) → in_order R (λ e. e.0) es ≡ is_sorted R es
in_order-entries R [] = refl
in_order-entries {K} {V} R (e ∷ es) = λ i. below es i && in_order-entries R es i
  where
    below : (ds : List (K × V)) → below_all R e.0 (keyed R (λ d. d.0) ds) ≡ below_all R e.0 ds
    below [] = refl
    below (d ∷ ds) = ap (λ b. is_lt (R e.0 d.0) && b) (below ds)

module _ {X Y K : Type 0} (R : K → K → Ordering) (key : X → K) (other : Y → K) (f : X → Y) (kept : (x : X) → other (f x) ≡ key x) where
  below-map : (k : K) (xs : List X) → below_all R k (keyed R other (map f xs)) ≡ below_all R k (keyed R key xs)
  below-map k [] = refl
  below-map k (x ∷ xs) = λ i. is_lt (R k (kept x i)) && below-map k xs i

  -- what is made of each item has its key
  pub in_order-map : (xs : List X) → in_order R other (map f xs) ≡ in_order R key xs
  in_order-map [] = refl
  in_order-map (x ∷ xs) = (ap (λ k. below_all R k (keyed R other (map f xs)) && in_order R other (map f xs)) (kept x)) ∙ (λ i. below-map (key x) xs i && in_order-map xs i)

module _ {X K : Type 0} (R : K → K → Ordering) (key : X → K) where
  below-filter : (k : K) (p : X → Bool) (xs : List X) → below_all R k (keyed R key xs) ≡ true → below_all R k (keyed R key (filter p xs)) ≡ true
  below-filter k p [] h = refl
  below-filter k p (x ∷ xs) h = here (p x) (below-filter k p xs (second _ _ h))
    where
      here : (b : Bool) → below_all R k (keyed R key (filter p xs)) ≡ true → below_all R k (keyed R key (cond b (x ∷ filter p xs) (filter p xs))) ≡ true
      here true i = both _ _ (first _ _ h) i
      here false i = i

  pub in_order-filter : (p : X → Bool) (xs : List X) → in_order R key xs ≡ true → in_order R key (filter p xs) ≡ true
  in_order-filter p [] h = refl
  in_order-filter p (x ∷ xs) h = here (p x) (in_order-filter p xs (second _ _ h))
    where
      here : (b : Bool) → in_order R key (filter p xs) ≡ true → in_order R key (cond b (x ∷ filter p xs) (filter p xs)) ≡ true
      here true i = both _ _ (below-filter (key x) p xs (first _ _ h)) i
      here false i = i

  below-All : (k : K) (xs : List X) → below_all R k (keyed R key xs) ≡ true → All (λ x. R k (key x) ≡ Less) xs
  below-All k [] h = All-nil _
  below-All k (x ∷ xs) h = All-cons (λ y. R k (key y) ≡ Less) x xs (less _ (first _ _ h)) (below-All k xs (second _ _ h))

  all_of_both : (P Q S : X → Type 0) → ((x : X) → P x → Q x → S x) → (xs : List X) → All P xs → All Q xs → All S xs
  all_of_both P Q S h [] p q = All-nil S
  all_of_both P Q S h (x ∷ xs) p q =
      All-cons S x xs (h x (All-head P x xs p) (All-head Q x xs q)) (all_of_both P Q S h xs (All-tail P x xs p) (All-tail Q x xs q))

  -- each item of a list in order is the one that is found by its key
  pub each_found : IsTotalOrder R → (xs : List X) → in_order R key xs ≡ true → All (λ x. at R key (key x) xs ≡ Some x) xs
  each_found o [] h = All-nil _
  each_found o (x ∷ xs) h =
      All-cons (λ y. at R key (key y) (x ∷ xs) ≡ Some y) x xs (ap (λ r. cond (is_eq r) (Some x) (at R key (key x) xs)) (tied_itself o (key x)))
      (all_of_both (λ y. R (key x) (key y) ≡ Less) (λ y. at R key (key y) xs ≡ Some y) (λ y. at R key (key y) (x ∷ xs) ≡ Some y)
      (λ y l e. ap (λ r. cond (is_eq r) (Some x) (at R key (key y) xs)) (o.antisymm (key y) (key x) ∙ ap ordering_reverse l) ∙ e)
      xs (below-All (key x) xs (first _ _ h)) (each_found o xs (second _ _ h)))

  -- what is found by the key is what is found by a test that ties
  pub at-find : (k : K) (p : X → Bool) → ((x : X) → p x ≡ eq_by_cmp R k (key x)) → (xs : List X) → at R key k xs ≡ find p xs
  at-find k p ties [] = refl
  at-find k p ties (x ∷ xs) = λ i. cond (sym (ties x) i) (Some x) (at-find k p ties xs i)
