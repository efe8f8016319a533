-- The fields of an object.
use Rattle.std.specs.Prelude.{◌≡◌, ◌≢◌, ℕ, ℤ, Bool, false, List, IsSome, IfSome, Option, Some, None, option_and_then, if◌then◌else◌}
use Rattle.std.specs.Cmp.Lexicographic.{slice_cmp}
use Rattle.std.specs.List.{list_any}
use Rattle.std.specs.Ordering.{nat_cmp}
use Rattle.std.specs.declared.cmp.Ordering.TheVariants.{Less}
use Rattle.std.specs.Str.{bytes_eq}
use Rattle.names.specs.declared.kinds.Layer.{Layer}
use Rattle.names.specs.declared.kinds.Mode.{Mode}
use Rattle.names.specs.declared.kinds.PropClass.{PropClass}
use Rattle.names.specs.declared.kinds.WallKind.{WallKind}
use Rattle.names.specs.declared.token_id.TokenId.{TokenId}
use Rattle.serde_json.specs.Data.{Data, Items, Members, no_members, member}
use Rattle.serde_json.specs.Find.{get, get_member, as_bool, as_object}
use Rattle.json_fields.specs.Kinds.{integer_from, whole_from, text_from, word_from, pair_from, rectangle_from, list_from, tag_from, id_from, mode_from, layer_from, wall_kind_from, class_from, or_null}

-- the value at the key, of a kind; none where the key is missing, or its value is of another kind
abbrev pub field_in : {A : Type 0} → (Data → Option A) → List ℕ → Data → Option A
field_in kind key d = option_and_then kind (get key d)

abbrev pub integer_in : List ℕ → ℤ → ℤ → Data → Option ℤ
integer_in key least most d = field_in (integer_from least most) key d

abbrev pub whole_in : List ℕ → ℕ → ℕ → Data → Option ℕ
whole_in key least most d = field_in (whole_from least most) key d

abbrev pub text_in : List ℕ → ℕ → ℕ → Data → Option (List ℕ)
text_in key least most d = field_in (text_from least most) key d

abbrev pub boolean_in : List ℕ → Data → Option Bool
boolean_in key d = field_in as_bool key d

abbrev pub word_in : {A : Type 0} → List ℕ → List (List ℕ × A) → Data → Option A
word_in key rows d = field_in (word_from rows) key d

abbrev pub pair_in : List ℕ → ℤ → ℤ → Data → Option (ℤ × ℤ)
pair_in key least most d = field_in (pair_from least most) key d

abbrev pub rectangle_in : List ℕ → ℤ → ℤ → ℕ → ℕ → Data → Option ((ℤ × ℤ) × (ℕ × ℕ))
rectangle_in key least most least_side most_side d = field_in (rectangle_from least most least_side most_side) key d

abbrev pub list_in : List ℕ → ℕ → ℕ → Data → Option Items
list_in key least most d = field_in (list_from least most) key d

-- a text, or null
abbrev pub text_or_null_in : List ℕ → ℕ → ℕ → Data → Option (Option (List ℕ))
text_or_null_in key least most d = field_in (or_null (text_from least most)) key d

-- a tag, and the text of a token's id
abbrev pub tag_in : List ℕ → Data → Option (List ℕ)
tag_in key d = field_in tag_from key d

abbrev pub id_in : List ℕ → Data → Option TokenId
id_in key d = field_in id_from key d

-- a tag, or null
abbrev pub tag_or_null_in : List ℕ → Data → Option (Option (List ℕ))
tag_or_null_in key d = field_in (or_null tag_from) key d

-- the words of maps, tokens, walls and properties
abbrev pub mode_in : List ℕ → Data → Option Mode
mode_in key d = field_in mode_from key d

abbrev pub layer_in : List ℕ → Data → Option Layer
layer_in key d = field_in layer_from key d

abbrev pub wall_kind_in : List ℕ → Data → Option WallKind
wall_kind_in key d = field_in wall_kind_from key d

abbrev pub class_in : List ℕ → Data → Option PropClass
class_in key d = field_in class_from key d

abbrev pub kind_or : {A : Type 0} → A → (Data → Option A) → Option Data → Option A
kind_or default kind None = Some default
kind_or default kind (Some value) = kind value

-- the same of a field that may be missing, and stands for the default there
abbrev pub field_or : {A : Type 0} → A → (Data → Option A) → List ℕ → Data → Option A
field_or default kind key d = kind_or default kind (get key d)

abbrev pub layer_or : List ℕ → Layer → Data → Option Layer
layer_or key default d = field_or default layer_from key d

-- the first key that isn't known
abbrev pub unknown_member : List (List ℕ) → Members → Option (List ℕ)
unknown_member known no_members = None
unknown_member known (member key value rest) = if list_any (λ name. bytes_eq name key) known then unknown_member known rest else Some key

abbrev pub unknown_in : List (List ℕ) → Data → Option (List ℕ)
unknown_in known d = option_and_then (unknown_member known) (as_object d)

-- the key is the least in the order of bytes of those that the members have and that aren't known
pub record IsLeastUnknown (known : List (List ℕ)) (members : Members) (key : List ℕ) : Type 0 where
  pub there : IsSome (get_member key members)
  pub unknown : list_any (λ name. bytes_eq name key) known ≡ false
  pub least : (other : List ℕ) → IsSome (get_member other members) → list_any (λ name. bytes_eq name other) known ≡ false → slice_cmp nat_cmp other key ≢ Less

-- the same of an object
abbrev pub IsLeastUnknownIn : List (List ℕ) → Data → List ℕ → Type 0
IsLeastUnknownIn known d key = IfSome (as_object d) (λ members. IsLeastUnknown known members key)
