-- What becomes of the values of a table.
use Rattle.std.proofs.Common.{◌≡◌, ℕ, List, subst}
use Rattle.std.specs.Prelude.{All}
use Rattle.std.specs.Map.{values_of}
use Rattle.std.proofs.lemmas.Map.Views.{All-values-insert_entry}
use Rattle.std.proofs.lemmas.Map.Entries.{entries_from_clone}
use Rattle.names.specs.Tag.{tag_cmp}
use Rattle.type_table.specs.Types.{with_type, AreCopies}
use Rattle.type_table.proofs.Entries.{inserted}

module _ {V : Type 0} where
  -- what holds of each value holds still where it holds of the new one
  pub All-values-with_type : (P : V → Type 0) (types : List (List ℕ × V)) (name : List ℕ) (value : V) → All P (values_of types) → P value → All P (values_of (with_type name value types))
  All-values-with_type P types name value all one =
      subst (λ es. All P (values_of es)) (inserted types name value) (All-values-insert_entry tag_cmp name value P types all one)

  -- where a clone is the same value, the copies are the types
  pub same-AreCopies : (IsClone : V → V → Type 0) → ((x y : V) → IsClone x y → y ≡ x) → (types copies : List (List ℕ × V)) → AreCopies IsClone types copies → copies ≡ types
  same-AreCopies IsClone same types copies h = entries_from_clone (λ x y. y ≡ x) IsClone (λ x y e. e) same types copies h
