-- Items that are the same have one key.
use Rattle.std.proofs.Common.{◌≡◌, ℕ, ℤ, Bool, true, List, ap, sym, ◌∙◌}
use Rattle.std.specs.declared.cmp.Ordering.{Ordering}
use Rattle.std.specs.declared.cmp.Ordering.TheVariants.{Equal}
use Rattle.std.specs.Cmp.{IsTotalOrder, tied_itself}
use Rattle.views.specs.declared.view.MapView.{MapView}
use Rattle.views.specs.declared.view.TokenView.{TokenView}
use Rattle.views.specs.Keys.{Named, Letter, cell_cmp, name_of, cell_of, map_name, token_id}
use Rattle.views.specs.Same.{same_letter, same_light, same_bytes, same_map, same_token}
use Rattle.views.proofs.Orders.{tag_total, id_total, cell_total}
use Rattle.views.proofs.SameLemmas.{Tells, same_letter-tells, same_light-tells, same_bytes-tells, same_map-tells, same_token-tells}
use Rattle.names.specs.Tag.{tag_cmp}
use Rattle.names.specs.TokenId.{id_cmp, id_eq}
use Rattle.names.specs.declared.token_id.TokenId.{TokenId}
use Rattle.names.proofs.SameIds.{id_eq-Decides}

one_key : {X K : Type 0} (R : K → K → Ordering) (key : X → K) → IsTotalOrder R → (same : X → X → Bool) → Tells same → (x y : X) → same x y ≡ true → R (key y) (key x) ≡ Equal
one_key R key o same tells x y e = ap (λ z. R (key y) (key z)) ((tells x y).0 e) ∙ tied_itself o (key y)

pub one_light : (x y : Named ℤ) → same_light x y ≡ true → tag_cmp y.0 x.0 ≡ Equal
one_light = one_key tag_cmp name_of tag_total same_light same_light-tells

pub one_sight : (x y : Named (List ℕ)) → same_bytes x y ≡ true → tag_cmp y.0 x.0 ≡ Equal
one_sight = one_key tag_cmp name_of tag_total same_bytes same_bytes-tells

pub one_letter : (x y : Letter) → same_letter x y ≡ true → cell_cmp y.0 x.0 ≡ Equal
one_letter = one_key cell_cmp cell_of cell_total same_letter same_letter-tells

pub one_map : (x y : MapView) → same_map x y ≡ true → tag_cmp y.name x.name ≡ Equal
one_map = one_key tag_cmp map_name tag_total same_map same_map-tells

pub one_token : (x y : TokenView) → same_token x y ≡ true → id_cmp y.id x.id ≡ Equal
one_token = one_key id_cmp token_id id_total same_token same_token-tells

abbrev pub same_id : TokenId → TokenId
same_id id = id

pub one_id : (x y : TokenId) → id_eq x y ≡ true → id_cmp y x ≡ Equal
one_id = one_key id_cmp same_id id_total id_eq id_eq-Decides
