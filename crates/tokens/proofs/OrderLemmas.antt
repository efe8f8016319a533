-- The order of ids.
use Rattle.std.proofs.Common.{◌≡◌, Bool, true, false, ◌&&◌, refl, ◌∙◌, ap}
use Rattle.std.specs.declared.cmp.Ordering.{Ordering}
use Rattle.std.specs.declared.cmp.Ordering.TheVariants.{Less, Equal, Greater}
use Rattle.std.specs.Ordering.{is_lt, ordering_then, ordering_reverse}
use Rattle.std.specs.Cmp.{IsTotalOrder, nat_cmp_total, then_total, on_total, tied_itself}
use Rattle.std.specs.Cmp.Lexicographic.{nat_list_cmp_total}
use Rattle.std.specs.FinMap.{IsAntisymmetric, nat_cmp-IsAntisymmetric, slice_cmp-IsAntisymmetric}
use Rattle.names.specs.declared.token_id.TokenId.{TokenId}
use Rattle.names.specs.TokenId.{id_cmp, id_eq}
use Rattle.names.proofs.SameIds.{id_eq-Decides}

pub and_first : (a b : Bool) → (a && b) ≡ true → a ≡ true
and_first true b h = refl
and_first false b h = h

pub and_second : (a b : Bool) → (a && b) ≡ true → b ≡ true
and_second true b h = h
and_second false b h = cc

pub both : (a b : Bool) → a ≡ true → b ≡ true → (a && b) ≡ true
both true b h k = k
both false b h k = h

id_total : IsTotalOrder id_cmp
id_total = then_total (on_total (λ i. i.maker) nat_cmp_total) (on_total (λ i. i.tag) nat_list_cmp_total)

both_equal : (a b : Ordering) → ordering_then a b ≡ Equal → (a ≡ Equal) × (b ≡ Equal)
both_equal Less b e = cc
both_equal Equal b e = (refl, e)
both_equal Greater b e = cc

id_anti : IsAntisymmetric id_cmp
id_anti i j e =
    let p = both_equal _ _ e in
    let m : i.maker ≡ j.maker = nat_cmp-IsAntisymmetric i.maker j.maker p.0 in
    let t : i.tag ≡ j.tag = slice_cmp-IsAntisymmetric nat_cmp-IsAntisymmetric i.tag j.tag p.1 in
    λ k. record { maker = m k; tag = t k }

-- of two ids of which one is before the other, at most one is this
pub apart : (a b id : TokenId) → is_lt (id_cmp a b) ≡ true → id_eq a id ≡ true → id_eq b id ≡ false
apart a b id less e = by (id_eq b id) refl
  where
    by : (t : Bool) → id_eq b id ≡ t → t ≡ false
    by false f = refl
    by true f =
        let same : is_lt (id_cmp a b) ≡ false = (λ i. is_lt (id_cmp ((id_eq-Decides a id).0 e i) ((id_eq-Decides b id).0 f i))) ∙ ap is_lt (tied_itself id_total id) in
        cc

less_is : (r : Ordering) → is_lt r ≡ true → r ≡ Less
less_is Less h = refl
less_is Equal h = cc
less_is Greater h = cc

pub id_trans : (a b c : TokenId) → is_lt (id_cmp a b) ≡ true → is_lt (id_cmp b c) ≡ true → is_lt (id_cmp a c) ≡ true
id_trans a b c h k = ap is_lt (id_total.trans a b c (less_is _ h) (less_is _ k))

-- an id that isn't before another, and isn't the same, is behind it
pub behind : (a b : TokenId) → is_lt (id_cmp a b) ≡ false → id_eq a b ≡ false → is_lt (id_cmp b a) ≡ true
behind a b h k = by (id_cmp a b) refl h
  where
    by : (r : Ordering) → id_cmp a b ≡ r → is_lt r ≡ false → is_lt (id_cmp b a) ≡ true
    by Less e f = cc
    by Equal e f = let same : id_eq a b ≡ true = (id_eq-Decides a b).1 (id_anti a b e) in cc
    by Greater e f = ap is_lt (id_total.antisymm b a ∙ ap ordering_reverse e)
