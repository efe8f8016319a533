-- Properties after one is set.
use Rattle.std.proofs.Common.{◌≡◌, ℕ, ◌+◌, ◌≤◌, Bool, true, false, cond, ◌&&◌, nat_le, zero, suc, List, [], ◌∷◌, length, take, Option, Some, None, is_some, Result, Ok, Err, refl, arith, ap, sym, ◌∙◌}
use Rattle.std.specs.Prelude.{is_none, unwrap_or, OnOk, OnErr}
use Rattle.std.specs.List.{All, AllByRecursion, IsDistinct, slice_get}
use Rattle.std.specs.Map.{keys_of}
use Rattle.std.specs.Cmp.Lexicographic.{nat_list_eq_equiv}
use Rattle.std.specs.Str.{bytes_eq}
use Rattle.std.proofs.lemmas.Bool.Decides.{nat_tests}
use Rattle.std.proofs.lemmas.List.Elements.{All-nil, All-cons, All-head, All-tail}
use Rattle.tokens.specs.Properties.{Property, AreInLimits, IsShortValue, is_full_for, value_of, with_value}

-- the values stay short
pub values_after : (name value : List ℕ) (props : List Property) → length value ≤ 200 → All IsShortValue props → All IsShortValue (with_value name value props)
values_after name value [] h all = All-cons IsShortValue (name, value) [] h (All-nil IsShortValue)
values_after name value (p ∷ ps) h all = by (bytes_eq name p.0) (values_after name value ps h (All-tail IsShortValue p ps all))
  where
    by : (t : Bool) → All IsShortValue (with_value name value ps) → All IsShortValue (cond t ((p.0, value) ∷ ps) (p ∷ with_value name value ps))
    by true rest = All-cons IsShortValue (p.0, value) ps h (All-tail IsShortValue p ps all)
    by false rest = All-cons IsShortValue p (with_value name value ps) (All-head IsShortValue p ps all) rest

-- the names stay few, where a name was there or fewer than 64 were
pub names_after : (old : Option (List ℕ)) (n m : ℕ) → (is_none old && nat_le 64 n) ≡ false → n ≤ 64 → m ≡ n + cond (is_some old) 0 1 → m ≤ 64
names_after None n m room few e = last n m room few e
  where
    last : (n m : ℕ) → nat_le 64 n ≡ false → n ≤ 64 → m ≡ n + 1 → m ≤ 64
    last n m room few e = grind (arith, nat_tests)
names_after (Some v) n m room few e = omega arith

length_after : (name value : List ℕ) (props : List Property) → length (with_value name value props) ≡ length props + cond (is_some (value_of name props)) 0 1
length_after name value [] = refl
length_after name value (p ∷ ps) = by (bytes_eq name p.0) (length_after name value ps)
  where
    by : (t : Bool) → length (with_value name value ps) ≡ length ps + cond (is_some (value_of name ps)) 0 1
        → length (cond t ((p.0, value) ∷ ps) (p ∷ with_value name value ps)) ≡ suc (length ps) + cond (is_some (cond t (Some p.1) (value_of name ps))) 0 1
    by true rest = omega arith
    by false rest = omega (arith, rest)

limits_after : (name value : List ℕ) (old now : List Property) → old ≡ now → false ≡ is_full_for name now
    → AreInLimits old → length value ≤ 200 → AreInLimits (with_value name value old)
limits_after name value old now same room limits short = record {
  names =
      names_after (value_of name old) (length old) (length (with_value name value old)) (ap (is_full_for name) same ∙ sym room)
      limits.names (length_after name value old);
  values = values_after name value old short limits.values;
}

-- the properties stay in their limits, whether one was set or not
pub limits_if_ok : {E : Type 0} (result : Result (Unit {0}) E) (name value : List ℕ) (old now new : List Property) → old ≡ now
    → false ≡ is_full_for name now → AreInLimits old → length value ≤ 200 → OnOk result (new ≡ with_value name value old) → OnErr result (new ≡ old)
    → AreInLimits new
limits_if_ok (Ok x) name value old now new same room limits short ok err = rw ok (limits_after name value old now same room limits short)
limits_if_ok (Err x) name value old now new same room limits short ok err = rw err limits

-- no name is there twice where none is
pub none_distinct : let none : List Property = [] in IsDistinct bytes_eq (keys_of none)
unfolding IsDistinct
none_distinct = tt

-- ---- properties set one after another

some_same : (p q : Property) → Some p ≡ Some q → p ≡ q
some_same p q e = ap (λ o. unwrap_or o p) e

other_name : (names : List ℕ) (props : List Property) (i : ℕ) (name value : List ℕ) → AllByRecursion (λ other. bytes_eq names other ≡ false) (keys_of props)
    → slice_get props i ≡ Some (name, value) → bytes_eq names name ≡ false
other_name names [] i name value all is = cc
other_name names (p ∷ ps) zero name value all is = ap (λ (q : Property). bytes_eq names q.0) (sym (some_same p (name, value) is)) ∙ all.0
other_name names (p ∷ ps) (suc i) name value all is = other_name names ps i name value all.1 is

-- where no name is there twice, the next property set after those before it goes behind them
pub taken_more : (props : List Property) (i : ℕ) (name value : List ℕ) → IsDistinct bytes_eq (keys_of props) → slice_get props i ≡ Some (name, value)
    → with_value name value (take i props) ≡ take (suc i) props
unfolding IsDistinct
taken_more [] i name value distinct is = cc
taken_more (p ∷ ps) zero name value distinct is = ap (λ q. q ∷ []) (sym (some_same p (name, value) is))
taken_more (p ∷ ps) (suc i) name value distinct is =
    let differs : bytes_eq name p.0 ≡ false = nat_list_eq_equiv.symm name p.0 ∙ other_name p.0 ps i name value distinct.0 is in
    ap (λ t. cond t ((p.0, value) ∷ take i ps) (p ∷ with_value name value (take i ps))) differs
    ∙ ap (λ qs. p ∷ qs) (taken_more ps i name value distinct.1 is)
