-- Lists in order, split at an element.
use Rattle.std.proofs.Common.{◌≡◌, ℕ, suc, ◌+◌, ◌≤◌, ◌<◌, List, [], ◌∷◌, ◌++◌, length, map, refl, sym, ap, ◌∙◌, arith, subst, true, false, Bool, ◌&&◌, nat_le}
use Rattle.std.specs.List.{AllByRecursion}
use Rattle.std.specs.Cmp.{IsTotalOrder}
use Rattle.std.specs.Ordering.{is_lt, ordering_reverse}
use Rattle.std.specs.declared.cmp.Ordering.{Ordering}
use Rattle.std.specs.declared.cmp.Ordering.TheVariants.{Less, Equal, Greater}
use Rattle.std.specs.FinMap.Entries.{is_sorted, below_all, put, by_order}
use Rattle.std.proofs.lemmas.Bool.Decides.{nat_tests}
use Rattle.maps.proofs.NameLemmas.{and_first, and_second}

-- what holds of each element holds of the one between the others
pub between : {A : Type 0} (P : A → Type 0) (done : List A) (x : A) (left all : List A) → done ++ x ∷ left ≡ all → AllByRecursion P all → P x
between {A} P done x left all e h = here done (subst (AllByRecursion P) (sym e) h)
  where
    here : (done : List A) → AllByRecursion P (done ++ x ∷ left) → P x
    here [] h = h.0
    here (y ∷ done) h = here done h.1

length-split : {A : Type 0} (done : List A) (x : A) (left : List A) → length (done ++ x ∷ left) ≡ length done + suc (length left)
length-split [] x left = omega arith
length-split (y ∷ done) x left = let e = length-split done x left in omega (arith, e)

-- there are fewer before an element than there are in all
pub fewer : {A : Type 0} (done : List A) (x : A) (left all : List A) (most : ℕ) → done ++ x ∷ left ≡ all → length all ≤ most → length done < most
fewer done x left all most e h = let n : length all ≡ length done + suc (length left) = ap length (sym e) ∙ length-split done x left in omega (arith, n, h)

pub room_left : (n most : ℕ) → n < most → nat_le most n ≡ false
room_left n most lt = grind (arith, nat_tests)

pub first_of : (a b : Bool) → (a && b) ≡ true → a ≡ true
first_of = and_first

-- all of these come before x
abbrev pub AreBefore : {A : Type 0} → (A → A → Bool) → A → List A → Type 0
AreBefore before x done = AllByRecursion (λ y. before y x ≡ true) done

pub less_is : (r : Ordering) → is_lt r ≡ true → r ≡ Less
less_is Less h = refl
less_is Equal h = cc
less_is Greater h = cc

module _ {K X : Type 0} (R : K → K → Ordering) where
  abbrev pub comes_before : K × X → K × X → Bool
  comes_before e f = is_lt (R e.0 f.0)

  below_mid : (k : K) (done : List (K × X)) (x : K × X) (left : List (K × X)) → below_all R k (done ++ x ∷ left) ≡ true → is_lt (R k x.0) ≡ true
  below_mid k [] x left h = and_first (is_lt (R k x.0)) (below_all R k left) h
  below_mid k (y ∷ done) x left h = below_mid k done x left (and_second (is_lt (R k y.0)) (below_all R k (done ++ x ∷ left)) h)

  sorted_split : (done : List (K × X)) (x : K × X) (left : List (K × X)) → is_sorted R (done ++ x ∷ left) ≡ true → AreBefore comes_before x done
  sorted_split [] x left h = tt
  sorted_split (y ∷ done) x left h = (
    below_mid y.0 done x left (and_first (below_all R y.0 (done ++ x ∷ left)) (is_sorted R (done ++ x ∷ left)) h),
    sorted_split done x left (and_second (below_all R y.0 (done ++ x ∷ left)) (is_sorted R (done ++ x ∷ left)) h),
  )

  -- a key behind all others goes last
  pub put_last : IsTotalOrder R → (x : K × X) (done : List (K × X)) → AreBefore comes_before x done → put R x.0 x.1 done ≡ done ++ x ∷ []
  put_last o x [] h = refl
  put_last o x (y ∷ done) h =
      ap (λ r. by_order r (x ∷ y ∷ done) ((y.0, x.1) ∷ done) (y ∷ put R x.0 x.1 done)) (o.antisymm x.0 y.0 ∙ ap ordering_reverse (less_is (R y.0 x.0) h.0))
      ∙ ap (λ rest. y ∷ rest) (put_last o x done h.1)

-- of a list of things under keys
module _ {K A : Type 0} (R : K → K → Ordering) (key : A → K) where
  abbrev keyed : List A → List (K × A)
  keyed list = map (λ a. (key a, a)) list

  below_key : (k : K) (done : List A) (x : A) (left : List A) → below_all R k (keyed (done ++ x ∷ left)) ≡ true → is_lt (R k (key x)) ≡ true
  below_key k [] x left h = and_first (is_lt (R k (key x))) (below_all R k (keyed left)) h
  below_key k (y ∷ done) x left h = below_key k done x left (and_second (is_lt (R k (key y))) (below_all R k (keyed (done ++ x ∷ left))) h)

  lesser_split : (done : List A) (x : A) (left : List A) → is_sorted R (keyed (done ++ x ∷ left)) ≡ true → AllByRecursion (λ y. is_lt (R (key y) (key x)) ≡ true) done
  lesser_split [] x left h = tt
  lesser_split (y ∷ done) x left h = (
    below_key (key y) done x left (and_first (below_all R (key y) (keyed (done ++ x ∷ left))) (is_sorted R (keyed (done ++ x ∷ left))) h),
    lesser_split done x left (and_second (below_all R (key y) (keyed (done ++ x ∷ left))) (is_sorted R (keyed (done ++ x ∷ left))) h),
  )

  -- those before an element have lesser keys
  pub lesser_keys : (done : List A) (x : A) (left all : List A) → done ++ x ∷ left ≡ all → is_sorted R (map (λ a. (key a, a)) all) ≡ true → AllByRecursion (λ y. is_lt (R (key y) (key x)) ≡ true) done
  lesser_keys done x left all e h = lesser_split done x left (ap (λ l. is_sorted R (keyed l)) e ∙ h)

pub lesser_entries : {K X : Type 0} (R : K → K → Ordering) (done : List (K × X)) (x : K × X) (left all : List (K × X)) → done ++ x ∷ left ≡ all → is_sorted R all ≡ true → AreBefore (comes_before R) x done
lesser_entries R done x left all e h = sorted_split R done x left (ap (λ l. is_sorted R l) e ∙ h)
