-- What std's ordered maps say of fields, in the words of `Fields`.
use Rattle.std.proofs.Common.{◌≡◌, List, rules}
use Rattle.std.specs.Map.{lookup, remove_entry}
use Rattle.std.specs.BTreeMap.{is_at}
use Rattle.std.specs.Cmp.Rules.{comparing}
use Rattle.std.specs.Ordering.{eq_by_cmp}
use Rattle.std.specs.List.{AllZip}
use Rattle.std.proofs.lemmas.Map.Entries.{entries_from_clone}
use Rattle.names.specs.declared.token_id.TokenId.{TokenId}
use Rattle.names.specs.TokenId.{id_cmp, id_eq}
use Rattle.cells.specs.Cells.{Cells}
use Rattle.vision.specs.Fields.{field_at, without_field}

-- the test of ids is the order's tie
pub ties : (a b : TokenId) → eq_by_cmp id_cmp a b ≡ id_eq a b
ties a b = search (comparing, rules)

pub looked_up : (id : TokenId) (fields : List (TokenId × Cells)) → lookup (is_at (id_cmp id)) fields ≡ field_at id fields
looked_up id fields = λ i. lookup (λ key. ties id key i) fields

pub removed : (id : TokenId) (fields : List (TokenId × Cells)) → remove_entry (is_at (id_cmp id)) fields ≡ without_field id fields
removed id fields = λ i. remove_entry (λ key. ties id key i) fields

-- where a clone is the same pair, the copy is the same list
pub copied : (IsKey : TokenId → TokenId → Type 0) (IsValue : Cells → Cells → Type 0) → ((a b : TokenId) → IsKey a b → b ≡ a) → ((x y : Cells) → IsValue x y → y ≡ x)
    → (fields copies : List (TokenId × Cells)) → AllZip (λ p q. IsKey p.0 q.0 × IsValue p.1 q.1) fields copies → copies ≡ fields
copied IsKey IsValue same_key same_value fields copies h = entries_from_clone IsKey IsValue same_key same_value fields copies h
