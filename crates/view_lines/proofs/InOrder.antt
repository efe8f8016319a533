-- A type that goes into a map goes into the members that the map is.
use Rattle.std.proofs.Common.{◌≡◌, ◌∙◌, ℕ, List, [], ◌∷◌, refl}
use Rattle.std.specs.declared.cmp.Ordering.{Ordering}
use Rattle.std.specs.declared.cmp.Ordering.TheVariants.{Less, Equal, Greater}
use Rattle.std.specs.Ordering.{match_ordering}
use Rattle.std.specs.BTreeMap.{insert_entry}
use Rattle.serde_json.specs.Data.{Data}
use Rattle.names.specs.Tag.{tag_cmp}
use Rattle.views.specs.Keys.{Named}
use Rattle.view_lines.specs.Entries.{members_in}
use Rattle.view_lines.specs.Lines.{with_member}

module _ {V : Type 0} (data_of : V → Data) where
  in_place : (o : Ordering) (a b c : List (Named V)) → members_in data_of (match_ordering o a b c) ≡ match_ordering o (members_in data_of a) (members_in data_of b) (members_in data_of c)
  in_place Less a b c = refl
  in_place Equal a b c = refl
  in_place Greater a b c = refl

  pub inserted : (types : List (Named V)) (name : List ℕ) (value : V) → members_in data_of (insert_entry tag_cmp types name value) ≡ with_member name (data_of value) (members_in data_of types)
  unfolding with_member
  inserted [] name value = refl
  inserted (t ∷ ts) name value = in_place (tag_cmp name t.0) _ _ _ ∙ rw (inserted ts name value)
