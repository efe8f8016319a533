-- The order of names.
use Rattle.std.proofs.Common.{◌≡◌, ◌≢◌, ℕ, List, Bool, true, false, ◌&&◌, refl, ◌∙◌, ap}
use Rattle.std.specs.declared.cmp.Ordering.{Ordering}
use Rattle.std.specs.declared.cmp.Ordering.TheVariants.{Less, Equal, Greater}
use Rattle.std.specs.Ordering.{is_lt, ordering_reverse}
use Rattle.std.specs.Cmp.{IsTotalOrder, tied_itself}
use Rattle.std.specs.Cmp.Lexicographic.{nat_list_cmp_total}
use Rattle.std.specs.FinMap.{IsAntisymmetric, nat_cmp-IsAntisymmetric, slice_cmp-IsAntisymmetric}
use Rattle.std.specs.Str.{bytes_eq}
use Rattle.std.proofs.lemmas.Slice.Eq.{bytes_eq-Decides}
use Rattle.names.specs.Tag.{tag_cmp}

pub and_first : (a b : Bool) → (a && b) ≡ true → a ≡ true
and_first true b h = refl
and_first false b h = h

pub and_second : (a b : Bool) → (a && b) ≡ true → b ≡ true
and_second true b h = h
and_second false b h = cc

pub both : (a b : Bool) → a ≡ true → b ≡ true → (a && b) ≡ true
both true b h k = k
both false b h k = h

pub same_name : (name : List ℕ) → bytes_eq name name ≡ true
same_name name = (bytes_eq-Decides name name).1 refl

pub other_name : (name other : List ℕ) → name ≢ other → bytes_eq name other ≡ false
other_name name other ne = by (bytes_eq name other) refl
  where
    by : (t : Bool) → bytes_eq name other ≡ t → t ≡ false
    by true e = absurd (ne ((bytes_eq-Decides name other).0 e))
    by false e = refl

tag_total : IsTotalOrder tag_cmp
tag_total = nat_list_cmp_total

tag_anti : IsAntisymmetric tag_cmp
tag_anti = slice_cmp-IsAntisymmetric nat_cmp-IsAntisymmetric

-- of two names of which one is before the other, at most one is this
pub apart : (a b name : List ℕ) → is_lt (tag_cmp a b) ≡ true → bytes_eq a name ≡ true → bytes_eq b name ≡ false
apart a b name less e = by (bytes_eq b name) refl
  where
    by : (t : Bool) → bytes_eq b name ≡ t → t ≡ false
    by false f = refl
    by true f =
        let same : is_lt (tag_cmp a b) ≡ false = (λ i. is_lt (tag_cmp ((bytes_eq-Decides a name).0 e i) ((bytes_eq-Decides b name).0 f i))) ∙ ap is_lt (tied_itself tag_total name) in
        cc

less_is : (r : Ordering) → is_lt r ≡ true → r ≡ Less
less_is Less h = refl
less_is Equal h = cc
less_is Greater h = cc

pub tag_trans : (a b c : List ℕ) → is_lt (tag_cmp a b) ≡ true → is_lt (tag_cmp b c) ≡ true → is_lt (tag_cmp a c) ≡ true
tag_trans a b c h k = ap is_lt (tag_total.trans a b c (less_is _ h) (less_is _ k))

-- a name that isn't before another, and isn't the same, is behind it
pub behind : (a b : List ℕ) → is_lt (tag_cmp a b) ≡ false → bytes_eq a b ≡ false → is_lt (tag_cmp b a) ≡ true
behind a b h k = by (tag_cmp a b) refl h
  where
    by : (r : Ordering) → tag_cmp a b ≡ r → is_lt r ≡ false → is_lt (tag_cmp b a) ≡ true
    by Less e f = cc
    by Equal e f = let same : bytes_eq a b ≡ true = (bytes_eq-Decides a b).1 (tag_anti a b e) in cc
    by Greater e f = ap is_lt (tag_total.antisymm b a ∙ ap ordering_reverse e)
