-- There is one ascending order of a list of numbers, and `ascending` has it.
use Rattle.std.proofs.Common.{◌≡◌, ℕ, zero, suc, ◌<◌, ◌≤◌, Bool, true, false, cond, List, [], ◌∷◌, length, get_or, refl, sym, ap, ◌∙◌, arith}
use Rattle.std.specs.Prelude.{nat_le, nat_eq, sum_by}
use Rattle.std.specs.List.Sorted.{IsPermutation, IsNonDecreasing}
use Rattle.std.proofs.lemmas.Bool.Decides.{nat_tests}
use Rattle.std.proofs.lemmas.List.Sums.{sum_by-cons}
use Rattle.std.proofs.lemmas.List.Sorted.{sum_by-IsPermutation, IsPermutation-refl, IsPermutation-cons, IsPermutation-trans}
use Rattle.dice_roll.specs.Rolling.{insert_ascending, ascending}

-- x is at most each of the values
abbrev Below : ℕ → List ℕ → Type 0
Below x [] = Unit {0}
Below x (y ∷ ys) = (x ≤ y) × Below x ys

abbrev Ascends : List ℕ → Type 0
Ascends [] = Unit {0}
Ascends (x ∷ xs) = Below x xs × Ascends xs

below_less : (x y : ℕ) (ys : List ℕ) → x ≤ y → Below y ys → Below x ys
below_less x y [] le h = tt
below_less x y (z ∷ ys) le h = (omega (arith, h.0), below_less x y ys le h.1)

test_le : (x y : ℕ) → nat_le x y ≡ true → x ≤ y
test_le x y e = grind (arith, nat_tests)

test_gt : (x y : ℕ) → nat_le x y ≡ false → y ≤ x
test_gt x y e = grind (arith, nat_tests)

below_insert_by : (z x y : ℕ) (ys rest : List ℕ) (v : Bool) → z ≤ x → z ≤ y → Below z ys → Below z rest → Below z (cond v (x ∷ (y ∷ ys)) (y ∷ rest))
below_insert_by z x y ys rest true a b h g = (a, (b, h))
below_insert_by z x y ys rest false a b h g = (b, g)

below_insert : (z x : ℕ) (ys : List ℕ) → z ≤ x → Below z ys → Below z (insert_ascending x ys)
below_insert z x [] le h = (le, tt)
below_insert z x (y ∷ ys) le h = below_insert_by z x y ys (insert_ascending x ys) (nat_le x y) le h.0 h.1 (below_insert z x ys le h.1)

ascends_insert_by : (x y : ℕ) (ys rest : List ℕ) (v : Bool) → nat_le x y ≡ v → Below y ys → Ascends ys → Ascends rest → (y ≤ x → Below y rest) → Ascends (cond v (x ∷ (y ∷ ys)) (y ∷ rest))
ascends_insert_by x y ys rest true e b h g k = let le = test_le x y e in ((le, below_less x y ys le b), (b, h))
ascends_insert_by x y ys rest false e b h g k = (k (test_gt x y e), g)

ascends_insert : (x : ℕ) (ys : List ℕ) → Ascends ys → Ascends (insert_ascending x ys)
ascends_insert x [] h = (tt, tt)
ascends_insert x (y ∷ ys) h = ascends_insert_by x y ys (insert_ascending x ys) (nat_le x y) refl h.0 h.1 (ascends_insert x ys h.1) (λ le. below_insert y x ys le h.0)

ascends_ascending : (xs : List ℕ) → Ascends (ascending xs)
ascends_ascending [] = tt
ascends_ascending (x ∷ xs) = ascends_insert x (ascending xs) (ascends_ascending xs)

-- ---- ascending keeps the values

swapped : (x y : ℕ) (ys : List ℕ) → IsPermutation (x ∷ (y ∷ ys)) (y ∷ (x ∷ ys))
swapped x y ys = record { moves = (0, 1) ∷ []; below = (omega arith, omega arith, tt); is = refl }

insert_keeps_by : (x y : ℕ) (ys rest : List ℕ) (v : Bool) → IsPermutation (x ∷ ys) rest → IsPermutation (x ∷ (y ∷ ys)) (cond v (x ∷ (y ∷ ys)) (y ∷ rest))
insert_keeps_by x y ys rest true h = IsPermutation-refl (x ∷ (y ∷ ys))
insert_keeps_by x y ys rest false h = IsPermutation-trans (x ∷ (y ∷ ys)) (y ∷ (x ∷ ys)) (y ∷ rest) (swapped x y ys) (IsPermutation-cons y (x ∷ ys) rest h)

insert_keeps : (x : ℕ) (ys : List ℕ) → IsPermutation (x ∷ ys) (insert_ascending x ys)
insert_keeps x [] = IsPermutation-refl (x ∷ [])
insert_keeps x (y ∷ ys) = insert_keeps_by x y ys (insert_ascending x ys) (nat_le x y) (insert_keeps x ys)

pub ascending_keeps : (xs : List ℕ) → IsPermutation xs (ascending xs)
ascending_keeps [] = IsPermutation-refl []
ascending_keeps (x ∷ xs) = IsPermutation-trans (x ∷ xs) (x ∷ ascending xs) (insert_ascending x (ascending xs)) (IsPermutation-cons x xs (ascending xs) (ascending_keeps xs)) (insert_keeps x (ascending xs))

-- ---- the words of std for the same order

below_at : (x : ℕ) (ys : List ℕ) (j : ℕ) (d : ℕ) → Below x ys → j < length ys → x ≤ get_or ys j d
below_at x [] j d h lt = absurd (omega arith)
below_at x (y ∷ ys) zero d h lt = h.0
below_at x (y ∷ ys) (suc j) d h lt = below_at x ys j d h.1 (omega arith)

does_not_fall : (xs : List ℕ) → Ascends xs → IsNonDecreasing xs
does_not_fall [] h i j d le lt = absurd (omega arith)
does_not_fall (x ∷ xs) h zero zero d le lt = omega arith
does_not_fall (x ∷ xs) h zero (suc j) d le lt = below_at x xs j d h.0 (omega arith)
does_not_fall (x ∷ xs) h (suc i) zero d le lt = absurd (omega arith)
does_not_fall (x ∷ xs) h (suc i) (suc j) d le lt = does_not_fall xs h.1 i j d (omega arith) (omega arith)

below_from : (x : ℕ) (ys : List ℕ) → ((j : ℕ) → j < length ys → x ≤ get_or ys j 0) → Below x ys
below_from x [] h = tt
below_from x (y ∷ ys) h = (h 0 (omega arith), below_from x ys (λ j lt. h (suc j) (omega arith)))

ascends_from : (xs : List ℕ) → IsNonDecreasing xs → Ascends xs
ascends_from [] h = tt
ascends_from (x ∷ xs) h = (below_from x xs (λ j lt. h 0 (suc j) 0 (omega arith) (omega arith)), ascends_from xs (λ i j d le lt. h (suc i) (suc j) d (omega arith) (omega arith)))

pub ascending_law : (values : List ℕ) → IsPermutation values (ascending values) × IsNonDecreasing (ascending values)
ascending_law values = (ascending_keeps values, does_not_fall (ascending values) (ascends_ascending values))

-- ---- two ascending lists with as many of each value are one

abbrev is_it : ℕ → ℕ → ℕ
is_it v y = cond (nat_eq v y) 1 0

is_it_same : (v : ℕ) → is_it v v ≡ 1
is_it_same v = let e : nat_eq v v ≡ true = grind (arith, nat_tests) in rw e refl

is_it_other : (v y : ℕ) → v < y → is_it v y ≡ 0
is_it_other v y lt = let e : nat_eq v y ≡ false = grind (arith, nat_tests) in rw e refl

none_below : (v x : ℕ) (ys : List ℕ) → v < x → Below x ys → sum_by (is_it v) ys ≡ 0
none_below v x [] lt h = refl
none_below v x (y ∷ ys) lt h = let le = h.0 in let a = none_below v x ys lt h.1 in let b = is_it_other v y (omega arith) in sum_by-cons (is_it v) y ys ∙ omega arith

-- the least of one is no less than the least of the other
no_less : (x y : ℕ) (xs ys : List ℕ) → Below x xs → sum_by (is_it y) (x ∷ xs) ≡ sum_by (is_it y) (y ∷ ys) → y < x → ⊥
no_less x y xs ys h e lt =
    let a = none_below y x (x ∷ xs) lt (omega arith, h) in
    let b = sum_by-cons (is_it y) y ys in
    let c = is_it_same y in
    omega arith

rest_same : (x y v : ℕ) (xs ys : List ℕ) → x ≡ y → sum_by (is_it v) (x ∷ xs) ≡ sum_by (is_it v) (y ∷ ys) → sum_by (is_it v) xs ≡ sum_by (is_it v) ys
rest_same x y v xs ys same e =
    let a = sum_by-cons (is_it v) x xs in
    let b = sum_by-cons (is_it v) y ys in
    let c : is_it v x ≡ is_it v y = ap (λ (w : ℕ). is_it v w) same in
    omega arith

one_order : (xs ys : List ℕ) → Ascends xs → Ascends ys → ((v : ℕ) → sum_by (is_it v) xs ≡ sum_by (is_it v) ys) → xs ≡ ys
one_order [] [] h g e = refl
one_order [] (y ∷ ys) h g e = let a = e y in let b = sum_by-cons (is_it y) y ys in let c = is_it_same y in absurd (omega arith)
one_order (x ∷ xs) [] h g e = let a = e x in let b = sum_by-cons (is_it x) x xs in let c = is_it_same x in absurd (omega arith)
one_order (x ∷ xs) (y ∷ ys) h g e =
    let up = no_less x y xs ys h.0 (e y) in
    let down = no_less y x ys xs g.0 (sym (e x)) in
    let same : x ≡ y = omega arith in
    let rest = one_order xs ys h.1 g.1 (λ v. rest_same x y v xs ys same (e v)) in
    rw (same, rest) refl

-- what a sort makes of the values is `ascending`
pub sorted_is_ascending : (values sorted : List ℕ) → IsPermutation values sorted → IsNonDecreasing sorted → sorted ≡ ascending values
sorted_is_ascending values sorted perm up =
    one_order sorted (ascending values) (ascends_from sorted up) (ascends_ascending values)
    (λ v. sum_by-IsPermutation (is_it v) values sorted perm ∙ sym (sum_by-IsPermutation (is_it v) values (ascending values) (ascending_keeps values)))
