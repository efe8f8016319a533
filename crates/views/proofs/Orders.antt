-- The orders of keys are total, and tie equal keys alone.
use Rattle.std.proofs.Common.{◌≡◌, ℕ, Bool, List, true, refl, sym, ap, subst}
use Rattle.std.specs.declared.cmp.Ordering.{Ordering}
use Rattle.std.specs.declared.cmp.Ordering.TheVariants.{Less, Equal, Greater}
use Rattle.std.specs.Ordering.{ordering_then, eq_by_cmp, is_eq}
use Rattle.std.specs.Bool.{Decides}
use Rattle.std.specs.Str.{bytes_eq}
use Rattle.std.proofs.lemmas.Bool.Decides.{same_from_decides}
use Rattle.std.proofs.lemmas.Slice.Eq.{bytes_eq-Decides}
use Rattle.names.proofs.SameIds.{id_eq-Decides}
use Rattle.std.specs.Cmp.{tied_itself, IsTotalOrder, nat_cmp_total, then_total, on_total}
use Rattle.std.specs.Cmp.Lexicographic.{nat_list_cmp_total}
use Rattle.std.specs.FinMap.{IsAntisymmetric, nat_cmp-IsAntisymmetric, slice_cmp-IsAntisymmetric}
use Rattle.names.specs.declared.token_id.TokenId.{TokenId}
use Rattle.names.specs.Tag.{tag_cmp}
use Rattle.names.specs.TokenId.{id_cmp, id_eq}
use Rattle.cells.specs.declared.cell.Cell.{Cell}
use Rattle.views.specs.Keys.{cell_cmp}

pub eq_is : (r : Ordering) → is_eq r ≡ true → r ≡ Equal
eq_is Less e = cc
eq_is Equal e = refl
eq_is Greater e = cc

pub tag_total : IsTotalOrder tag_cmp
tag_total = nat_list_cmp_total

pub id_total : IsTotalOrder id_cmp
id_total = then_total (on_total (λ i. i.maker) nat_cmp_total) (on_total (λ i. i.tag) tag_total)

pub cell_total : IsTotalOrder cell_cmp
cell_total = then_total (on_total (λ c. c.y) nat_cmp_total) (on_total (λ c. c.x) nat_cmp_total)

pub tag_anti : IsAntisymmetric tag_cmp
tag_anti = slice_cmp-IsAntisymmetric nat_cmp-IsAntisymmetric

both_equal : (a b : Ordering) → ordering_then a b ≡ Equal → (a ≡ Equal) × (b ≡ Equal)
both_equal Less b e = cc
both_equal Equal b e = (refl, e)
both_equal Greater b e = cc

pub id_anti : IsAntisymmetric id_cmp
id_anti i j e =
    let p = both_equal _ _ e in
    let m : i.maker ≡ j.maker = nat_cmp-IsAntisymmetric i.maker j.maker p.0 in
    let t : i.tag ≡ j.tag = tag_anti i.tag j.tag p.1 in
    λ k. record { maker = m k; tag = t k }

pub cell_anti : IsAntisymmetric cell_cmp
cell_anti i j e =
    let p = both_equal _ _ e in
    let v : i.y ≡ j.y = nat_cmp-IsAntisymmetric i.y j.y p.0 in
    let u : i.x ≡ j.x = nat_cmp-IsAntisymmetric i.x j.x p.1 in
    λ k. record { x = u k; y = v k }

-- a test that tells equality is the order's tie
ties : {K : Type 0} (R : K → K → Ordering) → IsTotalOrder R → IsAntisymmetric R → (E : K → K → Bool) → ((a b : K) → Decides (E a b) (a ≡ b)) → (a b : K) → E a b ≡ eq_by_cmp R a b
ties R total anti E tells a b = same_from_decides (E a b) (eq_by_cmp R a b) (tells a b) (λ e. anti a b (eq_is _ e), λ e. subst (λ z. eq_by_cmp R a z ≡ true) e (ap is_eq (tied_itself total a)))

pub tag_ties : (a b : List ℕ) → bytes_eq a b ≡ eq_by_cmp tag_cmp a b
tag_ties = ties tag_cmp tag_total tag_anti bytes_eq bytes_eq-Decides

pub id_ties : (a b : TokenId) → id_eq a b ≡ eq_by_cmp id_cmp a b
id_ties = ties id_cmp id_total id_anti id_eq id_eq-Decides

-- the same, the other way round
ties_turned : {K : Type 0} (R : K → K → Ordering) → IsTotalOrder R → IsAntisymmetric R → (E : K → K → Bool) → ((a b : K) → Decides (E a b) (a ≡ b)) → (a b : K) → E b a ≡ eq_by_cmp R a b
ties_turned R total anti E tells a b = same_from_decides (E b a) (eq_by_cmp R a b) (tells b a) (λ e. sym (anti a b (eq_is _ e)), λ e. subst (λ z. eq_by_cmp R a z ≡ true) (sym e) (ap is_eq (tied_itself total a)))

pub tag_ties_turned : (a b : List ℕ) → bytes_eq b a ≡ eq_by_cmp tag_cmp a b
tag_ties_turned = ties_turned tag_cmp tag_total tag_anti bytes_eq bytes_eq-Decides

pub id_ties_turned : (a b : TokenId) → id_eq b a ≡ eq_by_cmp id_cmp a b
id_ties_turned = ties_turned id_cmp id_total id_anti id_eq id_eq-Decides

pub cell_tied : (a b : Cell) → Decides (eq_by_cmp cell_cmp a b) (a ≡ b)
cell_tied a b = (λ e. cell_anti a b (eq_is _ e), λ e. subst (λ z. eq_by_cmp cell_cmp a z ≡ true) e (ap is_eq (tied_itself cell_total a)))
