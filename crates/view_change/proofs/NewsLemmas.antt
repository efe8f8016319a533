-- How two lists in order are gone through side by side.
use Rattle.std.proofs.Common.{◌≡◌, ℕ, suc, zero, ◌+◌, ◌<◌, ◌≤◌, Bool, true, false, cond, ◌&&◌, ◌||◌, List, [], ◌∷◌, ◌++◌, length, take, drop, get_or, refl, sym, ◌∙◌, ap, subst, arith}
use Rattle.std.specs.Prelude.{Some, None, unwrap_or, not, nat_lt}
use Rattle.std.proofs.lemmas.Bool.Decides.{nat_tests}
use Rattle.std.specs.List.{position, position_or_len, AllAdjacentBelow}
use Rattle.std.specs.declared.cmp.Ordering.{Ordering}
use Rattle.std.specs.declared.cmp.Ordering.TheVariants.{Less, Equal, Greater}
use Rattle.std.specs.Ordering.{is_le, is_lt, ordering_reverse}
use Rattle.std.specs.Cmp.{IsTotalOrder}
use Rattle.std.specs.FinMap.Entries.{below_all}
use Rattle.views.specs.Order.{keyed, in_order}
use Rattle.view_change.specs.Keyed.{is_in, is_first, puts_from}
use Rattle.std.proofs.lemmas.List.{take_more, append-nil}
use Rattle.std.proofs.lemmas.List.Elements.{filter-append}
use lib.Dec.{T}

is_less : (r : Ordering) → is_lt r ≡ true → r ≡ Less
is_less Less e = refl
is_less Equal e = cc
is_less Greater e = cc

greater_less : Greater ≡ Less → ⊥
greater_less e = cc

both : (a b : Bool) → a ≡ true → b ≡ true → (a && b) ≡ true
both true b e f = f
both false b e f = cc

left_true : (a b : Bool) → (a && b) ≡ true → a ≡ true
left_true true b e = refl
left_true false b e = cc

right_true : (a b : Bool) → (a && b) ≡ true → b ≡ true
right_true true b e = e
right_true false b e = cc

module _ {X K : Type 0} (R : K → K → Ordering) (key : X → K) where
  -- what is left from the item's place on
  abbrev pub from : X → List X → List X
  from y [] = []
  from y (x ∷ xs) = cond (is_le (R (key y) (key x))) (x ∷ xs) (from y xs)

module _ {X K : Type 0} (R : K → K → Ordering) (key : X → K) (o : IsTotalOrder R) where
  -- ---- rising keys

  lower : (k q : K) (xs : List X) → R k q ≡ Less → below_all R q (keyed R key xs) ≡ true → below_all R k (keyed R key xs) ≡ true
  lower k q [] e h = refl
  lower k q (x ∷ xs) e h =
      both _ _ (ap is_lt (o.trans k q (key x) e (is_less _ (left_true _ _ h)))) (lower k q xs e (right_true _ _ h))

  pub ordered : (xs : List X) → AllAdjacentBelow (λ x y. is_lt (R (key x) (key y)) ≡ true) xs (length xs) → in_order R key xs ≡ true
  ordered [] a = refl
  ordered (x ∷ []) a = refl
  ordered (x ∷ y ∷ ys) a =
      let first : R (key x) (key y) ≡ Less = is_less _ (a 0 x (omega arith)) in
      let rest : in_order R key (y ∷ ys) ≡ true = ordered (y ∷ ys) (λ k d l. let e : suc k + 1 ≡ suc (k + 1) = omega arith in subst (λ n. is_lt (R (key (get_or (y ∷ ys) k d)) (key (get_or (x ∷ y ∷ ys) n d))) ≡ true) e (a (suc k) d (omega arith))) in
      both _ _ (both _ _ (ap is_lt first) (lower (key x) (key y) ys first (left_true _ _ rest))) rest

  -- the key at a place is below those behind it
  pub rises : (xs : List X) (i j : ℕ) (d e : X) → in_order R key xs ≡ true → i < j → j < length xs → R (key (get_or xs i d)) (key (get_or xs j e)) ≡ Less
  rises [] i j d e h lt within = absurd (omega arith)
  rises (x ∷ xs) zero zero d e h lt within = absurd (omega arith)
  rises (x ∷ xs) (suc i) zero d e h lt within = absurd (omega arith)
  rises (x ∷ xs) zero (suc j) d e h lt within = below xs j (left_true _ _ h) (omega arith)
    where
      below : (ys : List X) (k : ℕ) → below_all R (key x) (keyed R key ys) ≡ true → k < length ys → R (key x) (key (get_or ys k e)) ≡ Less
      below [] k b l = absurd (omega arith)
      below (y ∷ ys) zero b l = is_less _ (left_true _ _ b)
      below (y ∷ ys) (suc k) b l = below ys k (right_true _ _ b) (omega arith)
  rises (x ∷ xs) (suc i) (suc j) d e h lt within = rises xs i j d e (right_true _ _ h) (omega arith) (omega arith)

  -- ---- what is left

  pub from-in_order : (y : X) (xs : List X) → in_order R key xs ≡ true → in_order R key (from R key y xs) ≡ true
  from-in_order y [] h = refl
  from-in_order y (x ∷ xs) h = here (is_le (R (key y) (key x))) (from-in_order y xs (right_true _ _ h))
    where
      here : (b : Bool) → in_order R key (from R key y xs) ≡ true → in_order R key (cond b (x ∷ xs) (from R key y xs)) ≡ true
      here true i = h
      here false i = i

  module _ (same : X → X → Bool) (one_key : (x y : X) → same x y ≡ true → R (key y) (key x) ≡ Equal) where
    apart : (x y : X) → (R (key y) (key x) ≡ Equal → ⊥) → same x y ≡ false
    apart x y differ = here (same x y) (λ e. differ (one_key x y e))
      where
        here : (b : Bool) → (b ≡ true → ⊥) → b ≡ false
        here true n = absurd (n refl)
        here false n = refl

    unlike : (r : Ordering) → r ≡ Less → r ≡ Equal → ⊥
    unlike Less e f = cc
    unlike Equal e f = cc
    unlike Greater e f = cc

    unlike_greater : (r : Ordering) → r ≡ Greater → r ≡ Equal → ⊥
    unlike_greater Less e f = cc
    unlike_greater Equal e f = cc
    unlike_greater Greater e f = cc

    -- no item is the same whose key is less than each
    none_same : (y : X) (xs : List X) → below_all R (key y) (keyed R key xs) ≡ true → is_in same xs y ≡ false
    none_same y [] h = refl
    none_same y (x ∷ xs) h =
        (λ i. apart x y (unlike _ (is_less _ (left_true _ _ h))) i || is_in same xs y) ∙ none_same y xs (right_true _ _ h)

    -- an item stands in a list in order where it stands first in what is left from its place on
    pub first_there : (y : X) (xs : List X) → in_order R key xs ≡ true → is_first same (from R key y xs) y ≡ is_in same xs y
    first_there y [] h = refl
    first_there y (x ∷ xs) h = here (R (key y) (key x)) refl (first_there y xs (right_true _ _ h))
      where
        or_false : (a b : Bool) → b ≡ false → a ≡ (a || b)
        or_false true b e = refl
        or_false false b e = sym e

        here : (r : Ordering) → R (key y) (key x) ≡ r → is_first same (from R key y xs) y ≡ is_in same xs y → is_first same (cond (is_le r) (x ∷ xs) (from R key y xs)) y ≡ (same x y || is_in same xs y)
        here Less e i = or_false (same x y) (is_in same xs y) (none_same y xs (lower (key y) (key x) xs e (left_true _ _ h)))
        here Equal e i = or_false (same x y) (is_in same xs y) (none_same y xs (tied (keyed R key xs) (left_true _ _ h)))
          where
            tied : (es : List (K × X)) → below_all R (key x) es ≡ true → below_all R (key y) es ≡ true
            tied [] b = refl
            tied (z ∷ es) b = both _ _ (ap is_lt (o.congr (key y) (key x) z.0 e) ∙ left_true _ _ b) (tied es (right_true _ _ b))
        here Greater e i = i ∙ (λ k. sym (apart x y (unlike_greater _ e)) k || is_in same xs y)

    -- what is left is enough for an item behind
    pub later_there : (y z : X) (xs : List X) → R (key y) (key z) ≡ Less → is_in same (from R key y xs) z ≡ is_in same xs z
    later_there y z [] e = refl
    later_there y z (x ∷ xs) e = here (R (key y) (key x)) refl (later_there y z xs e)
      where
        here : (r : Ordering) → R (key y) (key x) ≡ r → is_in same (from R key y xs) z ≡ is_in same xs z → is_in same (cond (is_le r) (x ∷ xs) (from R key y xs)) z ≡ (same x z || is_in same xs z)
        here Less g i = refl
        here Equal g i = refl
        here Greater g i = i ∙ (λ k. sym (apart x z (passed g)) k || is_in same xs z)
          where
            passed : R (key y) (key x) ≡ Greater → R (key z) (key x) ≡ Equal → ⊥
            passed g f = greater_less (sym (o.antisymm (key z) (key y) ∙ ap ordering_reverse e) ∙ o.congr (key z) (key x) (key y) f ∙ o.antisymm (key x) (key y) ∙ ap ordering_reverse g)

-- what is left, by the place of its first item
module _ {X K : Type 0} (R : K → K → Ordering) (key : X → K) where
  abbrev stops : X → X → Bool
  stops y x = is_le (R (key y) (key x))

  at_or_behind : (t : Bool) (n l : ℕ) → t ≡ nat_lt n l → n ≤ l → unwrap_or (cond t (Some n) None) l ≡ n
  at_or_behind true n l e h = refl
  at_or_behind false n l e h = grind (arith, nat_tests)

  pub left_from : (y : X) (xs : List X) → drop (unwrap_or (position (stops y) xs) (length xs)) xs ≡ from R key y xs
  left_from y xs = ap (λ n. drop n xs) (at_or_behind _ (position_or_len (stops y) xs) (length xs) refl (bound xs)) ∙ walk xs
    where
      bound : (xs : List X) → position_or_len (stops y) xs ≤ length xs
      bound [] = omega arith
      bound (x ∷ xs) = here (stops y x) (bound xs)
        where
          here : (b : Bool) → position_or_len (stops y) xs ≤ length xs → cond (not b) (1 + position_or_len (stops y) xs) 0 ≤ length (x ∷ xs)
          here true i = omega arith
          here false i = omega arith

      walk : (xs : List X) → drop (position_or_len (stops y) xs) xs ≡ from R key y xs
      walk [] = refl
      walk (x ∷ xs) = here (stops y x) (walk xs)
        where
          here : (b : Bool) → drop (position_or_len (stops y) xs) xs ≡ from R key y xs → drop (cond (not b) (1 + position_or_len (stops y) xs) 0) (x ∷ xs) ≡ cond b (x ∷ xs) (from R key y xs)
          here true i = refl
          here false i = (let e : 1 + position_or_len (stops y) xs ≡ suc (position_or_len (stops y) xs) = omega arith in ap (λ n. drop n (x ∷ xs)) e) ∙ i

-- the items so far, and one more
module _ {X : Type 0} (same : X → X → Bool) where
  puts_more : (before after : List X) (i : ℕ) (x : X) → i < length after → x ≡ get_or after i x → puts_from same before (take (i + 1) after) ≡ puts_from same before (take i after) ++ puts_from same before (x ∷ [])
  puts_more before after i x h e =
      ap (puts_from same before) (take_more after i x h) ∙ filter-append (λ y. not (is_in same before y)) (take i after) (get_or after i x ∷ [])
      ∙ ap (λ z. puts_from same before (take i after) ++ puts_from same before (z ∷ [])) (sym e)

  pub one_new : (before after : List X) (i : ℕ) (x : X) (b : Bool) → i < length after → x ≡ get_or after i x → b ≡ is_in same before x → b ≡ false → puts_from same before (take i after) ++ x ∷ [] ≡ puts_from same before (take (i + 1) after)
  one_new before after i x b h e is no_one = sym (puts_more before after i x h e ∙ ap (λ t. puts_from same before (take i after) ++ cond (not t) (x ∷ []) []) (sym is ∙ no_one))

  pub none_new : (before after : List X) (i : ℕ) (x : X) (b : Bool) → i < length after → x ≡ get_or after i x → b ≡ is_in same before x → b ≡ true → puts_from same before (take i after) ≡ puts_from same before (take (i + 1) after)
  none_new before after i x b h e is there = sym (puts_more before after i x h e ∙ ap (λ t. puts_from same before (take i after) ++ cond (not t) (x ∷ []) []) (sym is ∙ there) ∙ append-nil (puts_from same before (take i after)))
