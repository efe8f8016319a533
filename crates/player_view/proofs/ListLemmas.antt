-- Lists, one item further.
use Rattle.std.proofs.Common.{◌≡◌, ℕ, zero, suc, ◌+◌, ◌-◌, ◌<◌, ◌≤◌, Bool, true, false, cond, ◌||◌, List, [], ◌∷◌, ◌++◌, Some, None, refl, sym, ◌∙◌, ap, subst, arith, take, drop, get_or, append-nil}
use Rattle.std.specs.Prelude.{Option, map, slice_get, All}
use Rattle.std.specs.List.{filter, filter_map, cons_option, find, list_any, range_with_len}
use Rattle.std.proofs.Math.Seq.{drop-cons}
use Rattle.std.proofs.lemmas.List.{take_more, map-append}
use Rattle.std.proofs.lemmas.List.Elements.{filter_map-append, All-get_or, All-nil, All-cons, All-head, All-tail}
use Rattle.std.proofs.lemmas.List.Folds.{list_any-append}
use Rattle.std.proofs.lemmas.Option.{slice_get_within, get_or_from_slice_get}

-- the items with one more
pub take_next : {X : Type 0} (xs : List X) (i : ℕ) (x : X) → slice_get xs i ≡ Some x → take (i + 1) xs ≡ take i xs ++ x ∷ []
take_next xs i x e =
    take_more xs i x (slice_get_within xs i x e) ∙ ap (λ z. take i xs ++ z ∷ []) (get_or_from_slice_get xs i x x e)

pub All-at : {X : Type 0} (P : X → Type 0) (xs : List X) (i : ℕ) (x : X) → All P xs → slice_get xs i ≡ Some x → P x
All-at P xs i x all e = subst P (get_or_from_slice_get xs i x x e) (All-get_or P xs i x (slice_get_within xs i x e) all)

pub filter_map_next : {X Y : Type 0} (f : X → Option Y) (xs : List X) (i : ℕ) (x : X) → slice_get xs i ≡ Some x
    → filter_map f (take (i + 1) xs) ≡ filter_map f (take i xs) ++ cons_option (f x) []
filter_map_next f xs i x e = ap (filter_map f) (take_next xs i x e) ∙ filter_map-append f (take i xs) (x ∷ [])

or_false : (b : Bool) → (b || false) ≡ b
or_false true = refl
or_false false = refl

pub list_any_next : {X : Type 0} (p : X → Bool) (xs : List X) (i : ℕ) (x : X) → slice_get xs i ≡ Some x
    → list_any p (take (i + 1) xs) ≡ (list_any p (take i xs) || p x)
list_any_next p xs i x e =
    ap (list_any p) (take_next xs i x e) ∙ list_any-append p (take i xs) (x ∷ [])
    ∙ ap (λ b. list_any p (take i xs) || b) (or_false (p x))

-- what holds of all from which something is made holds of what is made
pub All-filter_map : {X Y : Type 0} (P : Y → Type 0) (Q : X → Type 0) (f : X → Option Y) → ((x : X) (y : Y) → Q x → f x ≡ Some y → P y)
    → (xs : List X) → All Q xs → All P (filter_map f xs)
All-filter_map P Q f h [] all = All-nil P
All-filter_map {X} {Y} P Q f h (x ∷ xs) all = here (f x) refl (All-filter_map P Q f h xs (All-tail Q x xs all))
  where
    here : (o : Option Y) → f x ≡ o → All P (filter_map f xs) → All P (cons_option o (filter_map f xs))
    here None e rest = rest
    here (Some y) e rest = All-cons P y (filter_map f xs) (h x y (All-head Q x xs all) e) rest

map_filter-append : {X Y : Type 0} (f : X → Y) (p : X → Bool) (xs : List X) (x : X)
    → map f (filter p (xs ++ x ∷ [])) ≡ map f (filter p xs) ++ cond (p x) (f x ∷ []) []
map_filter-append {X} {Y} f p [] x = here (p x)
  where
    here : (b : Bool) → map f (cond b (x ∷ []) []) ≡ cond b (f x ∷ []) []
    here true = refl
    here false = refl
map_filter-append f p (y ∷ xs) x = here (p y) (map_filter-append f p xs x)
  where
    here : (b : Bool) → map f (filter p (xs ++ x ∷ [])) ≡ map f (filter p xs) ++ cond (p x) (f x ∷ []) []
        → map f (cond b (y ∷ filter p (xs ++ x ∷ [])) (filter p (xs ++ x ∷ [])))
        ≡ map f (cond b (y ∷ filter p xs) (filter p xs)) ++ cond (p x) (f x ∷ []) []
    here true i = ap (λ zs. f y ∷ zs) i
    here false i = i

pub map_filter_next : {X Y : Type 0} (f : X → Y) (p : X → Bool) (xs : List X) (i : ℕ) (x : X) → slice_get xs i ≡ Some x
    → map f (filter p (take (i + 1) xs)) ≡ map f (filter p (take i xs)) ++ cond (p x) (f x ∷ []) []
map_filter_next f p xs i x e = ap (λ ys. map f (filter p ys)) (take_next xs i x e) ∙ map_filter-append f p (take i xs) x

-- a range with a number more
pub range_more : (a n : ℕ) → range_with_len a (n + 1) ≡ range_with_len a n ++ (a + n) ∷ []
range_more a zero = let e : a ≡ a + 0 = omega arith in ap (λ k. k ∷ []) e
range_more a (suc n) =
    let e : suc n + 1 ≡ suc (n + 1) = omega arith in
    let f : a + 1 + n ≡ a + suc n = omega arith in
    ap (range_with_len a) e ∙ ap (λ ks. a ∷ ks) (range_more (a + 1) n) ∙ ap (λ k. a ∷ range_with_len (a + 1) n ++ k ∷ []) f

range_next : (n : ℕ) → range_with_len 0 (n + 1) ≡ range_with_len 0 n ++ n ∷ []
range_next n = range_more 0 n ∙ (let e : 0 + n ≡ n = omega arith in ap (λ k. range_with_len 0 n ++ k ∷ []) e)

filter-append : {X : Type 0} (p : X → Bool) (xs : List X) (x : X) → filter p (xs ++ x ∷ []) ≡ filter p xs ++ cond (p x) (x ∷ []) []
filter-append p [] x = refl
filter-append {X} p (y ∷ xs) x = here (p y) (filter-append p xs x)
  where
    here : (b : Bool) → filter p (xs ++ x ∷ []) ≡ filter p xs ++ cond (p x) (x ∷ []) []
        → cond b (y ∷ filter p (xs ++ x ∷ [])) (filter p (xs ++ x ∷ [])) ≡ cond b (y ∷ filter p xs) (filter p xs) ++ cond (p x) (x ∷ []) []
    here true i = ap (λ zs. y ∷ zs) i
    here false i = i

pub filter_range_next : (p : ℕ → Bool) (n : ℕ) → filter p (range_with_len 0 (n + 1)) ≡ filter p (range_with_len 0 n) ++ cond (p n) (n ∷ []) []
filter_range_next p n = ap (filter p) (range_next n) ∙ filter-append p (range_with_len 0 n) n

-- what is left of a range has its first number or one behind it
pub any_next : (p : ℕ → Bool) (i n : ℕ) → i < n
    → list_any p (range_with_len i (n - i)) ≡ (p i || list_any p (range_with_len (i + 1) (n - (i + 1))))
any_next p i n h = let e : n - i ≡ suc (n - (i + 1)) = omega arith in ap (λ k. list_any p (range_with_len i k)) e

pub any_end : (p : ℕ → Bool) (i n : ℕ) → n ≤ i → list_any p (range_with_len i (n - i)) ≡ false
any_end p i n h = let e : n - i ≡ 0 = omega arith in ap (λ k. list_any p (range_with_len i k)) e

pub any_start : (p : ℕ → Bool) (a n : ℕ) → list_any p (range_with_len a (a + n - a)) ≡ list_any p (range_with_len a n)
any_start p a n = let e : a + n - a ≡ n = omega arith in ap (λ k. list_any p (range_with_len a k)) e

pub ruleset range_steps = (any_next, any_end, any_start)

pub map_next : {X Y : Type 0} (f : X → Y) (xs : List X) (i : ℕ) (x : X) → slice_get xs i ≡ Some x
    → map f (take (i + 1) xs) ≡ map f (take i xs) ++ f x ∷ []
map_next f xs i x e = ap (map f) (take_next xs i x e) ∙ map-append f (take i xs) (x ∷ [])

drop_next : {X : Type 0} (xs : List X) (i : ℕ) (x : X) → slice_get xs i ≡ Some x → drop i xs ≡ x ∷ drop (i + 1) xs
drop_next xs i x e =
    drop-cons xs i x (slice_get_within xs i x e)
    ∙ (let n : suc i ≡ i + 1 = omega arith in ap (λ k. get_or xs i x ∷ drop k xs) n)
    ∙ ap (λ z. z ∷ drop (i + 1) xs) (get_or_from_slice_get xs i x x e)

pub find_here : {X : Type 0} (p : X → Bool) (xs : List X) (i : ℕ) (x : X) → slice_get xs i ≡ Some x → true ≡ p x
    → find p (drop i xs) ≡ find p xs → Some x ≡ find p xs
find_here p xs i x e t so_far =
    sym (ap (find p) (drop_next xs i x e) ∙ ap (λ b. cond b (Some x) (find p (drop (i + 1) xs))) (sym t)) ∙ so_far

pub find_on : {X : Type 0} (p : X → Bool) (xs : List X) (i : ℕ) (x : X) → slice_get xs i ≡ Some x → false ≡ p x
    → find p (drop i xs) ≡ find p xs → find p (drop (i + 1) xs) ≡ find p xs
find_on p xs i x e t so_far =
    sym (ap (find p) (drop_next xs i x e) ∙ ap (λ b. cond b (Some x) (find p (drop (i + 1) xs))) (sym t)) ∙ so_far

pub none_made : {X Y : Type 0} (f : X → Option Y) (xs : List X) (i : ℕ) (x : X) (ys : List Y) → ys ≡ filter_map f (take i xs)
    → slice_get xs i ≡ Some x → None ≡ f x → ys ≡ filter_map f (take (i + 1) xs)
none_made f xs i x ys so_far e n =
    so_far ∙ sym (append-nil (filter_map f (take i xs))) ∙ ap (λ o. filter_map f (take i xs) ++ cons_option o []) n
    ∙ sym (filter_map_next f xs i x e)

pub one_made : {X Y : Type 0} (f : X → Option Y) (xs : List X) (i : ℕ) (x : X) (ys : List Y) (y : Y) → ys ≡ filter_map f (take i xs)
    → slice_get xs i ≡ Some x → Some y ≡ f x → ys ++ y ∷ [] ≡ filter_map f (take (i + 1) xs)
one_made f xs i x ys y so_far e n =
    ap (λ zs. zs ++ y ∷ []) so_far ∙ ap (λ o. filter_map f (take i xs) ++ cons_option o []) n ∙ sym (filter_map_next f xs i x e)

pub none_kept : {X Y : Type 0} (f : X → Y) (p : X → Bool) (xs : List X) (i : ℕ) (x : X) (ys : List Y) → ys ≡ map f (filter p (take i xs))
    → slice_get xs i ≡ Some x → false ≡ p x → ys ≡ map f (filter p (take (i + 1) xs))
none_kept f p xs i x ys so_far e n =
    so_far ∙ sym (append-nil (map f (filter p (take i xs)))) ∙ ap (λ b. map f (filter p (take i xs)) ++ cond b (f x ∷ []) []) n
    ∙ sym (map_filter_next f p xs i x e)

pub one_kept : {X Y : Type 0} (f : X → Y) (p : X → Bool) (xs : List X) (i : ℕ) (x : X) (ys : List Y) (y : Y) → ys ≡ map f (filter p (take i xs))
    → slice_get xs i ≡ Some x → true ≡ p x → y ≡ f x → ys ++ y ∷ [] ≡ map f (filter p (take (i + 1) xs))
one_kept f p xs i x ys y so_far e n is =
    ap (λ zs. zs ++ y ∷ []) so_far ∙ ap (λ z. map f (filter p (take i xs)) ++ z ∷ []) is
    ∙ ap (λ b. map f (filter p (take i xs)) ++ cond b (f x ∷ []) []) n ∙ sym (map_filter_next f p xs i x e)

pub one_taken : {X : Type 0} (xs : List X) (i : ℕ) (x : X) (ys : List X) (y : X) → ys ≡ take i xs → slice_get xs i ≡ Some x → y ≡ x
    → ys ++ y ∷ [] ≡ take (i + 1) xs
one_taken xs i x ys y so_far e is =
    ap (λ zs. zs ++ y ∷ []) so_far ∙ ap (λ z. take i xs ++ z ∷ []) is ∙ sym (take_next xs i x e)

pub one_mapped : {X Y : Type 0} (f : X → Y) (xs : List X) (i : ℕ) (x : X) (ys : List Y) (y : Y) → ys ≡ map f (take i xs)
    → slice_get xs i ≡ Some x → y ≡ f x → ys ++ y ∷ [] ≡ map f (take (i + 1) xs)
one_mapped f xs i x ys y so_far e is =
    ap (λ zs. zs ++ y ∷ []) so_far ∙ ap (λ z. map f (take i xs) ++ z ∷ []) is ∙ sym (map_next f xs i x e)
