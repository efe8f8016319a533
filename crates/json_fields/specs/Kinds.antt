-- The kinds of value that a field may be: what a value of that kind stands for, and none for another value.
use Rattle.std.specs.Prelude.{ℕ, ◌&&◌, is_some, Bool, List, [], ◌∷◌, length, nat_le, int_le, ℤ, pos, negsuc, Option, Some, None, option_and_then, option_map, if◌then◌else◌}
use Rattle.std.specs.Option.{option_zip}
use Rattle.std.specs.Str.{bytes_eq}
use Rattle.names.specs.declared.kinds.Layer.{Layer}
use Rattle.names.specs.declared.kinds.Mode.{Mode}
use Rattle.names.specs.declared.kinds.PropClass.{PropClass}
use Rattle.names.specs.declared.kinds.WallKind.{WallKind}
use Rattle.names.specs.declared.token_id.TokenId.{TokenId}
use Rattle.names.specs.Tag.{tag_of}
use Rattle.names.specs.TokenId.{id_of}
use Rattle.names.specs.Words.{mode_of, layer_of, wall_of, class_of}
use Rattle.serde_json.specs.Data.{Data, null, boolean, number, string, array, object, Items}
use Rattle.serde_json.specs.Events.{items_len}
use Rattle.serde_json.specs.Find.{as_number, as_str, as_array, as_i64, at}

-- a number without a fraction that fits an i64
abbrev pub integer_of : Data → Option ℤ
integer_of d = option_and_then as_i64 (as_number d)

abbrev pub between : ℤ → ℤ → ℤ → Option ℤ
between least most z = if int_le least z && int_le z most then Some z else None

-- an integer from least to most
abbrev pub integer_from : ℤ → ℤ → Data → Option ℤ
integer_from least most d = option_and_then (between least most) (integer_of d)

abbrev pub within : ℕ → ℕ → ℤ → Option ℕ
within least most (pos n) = if nat_le least n && nat_le n most then Some n else None
within least most (negsuc n) = None

-- a whole number from least to most
abbrev pub whole_from : ℕ → ℕ → Data → Option ℕ
whole_from least most d = option_and_then (within least most) (integer_of d)

abbrev pub sized : ℕ → ℕ → List ℕ → Option (List ℕ)
sized least most text = if nat_le least (length text) && nat_le (length text) most then Some text else None

-- a text of least to most bytes of UTF-8
abbrev pub text_from : ℕ → ℕ → Data → Option (List ℕ)
text_from least most d = option_and_then (sized least most) (as_str d)

-- a tag
abbrev pub tag_from : Data → Option (List ℕ)
tag_from d = option_and_then tag_of (as_str d)

-- the text of a token's id
abbrev pub id_from : Data → Option TokenId
id_from d = option_and_then id_of (as_str d)

-- the word of a mode, a layer, a kind of wall, a class of property
abbrev pub mode_from : Data → Option Mode
mode_from d = option_and_then mode_of (as_str d)

abbrev pub layer_from : Data → Option Layer
layer_from d = option_and_then layer_of (as_str d)

abbrev pub wall_kind_from : Data → Option WallKind
wall_kind_from d = option_and_then wall_of (as_str d)

abbrev pub class_from : Data → Option PropClass
class_from d = option_and_then class_of (as_str d)

-- what the word stands for in a table
abbrev pub word_among : {A : Type 0} → List (List ℕ × A) → List ℕ → Option A
word_among [] word = None
word_among (row ∷ rows) word = if bytes_eq row.0 word then Some row.1 else word_among rows word

-- a word of a table
abbrev pub word_from : {A : Type 0} → List (List ℕ × A) → Data → Option A
word_from rows d = option_and_then (word_among rows) (as_str d)

abbrev pub is_counted : ℕ → ℕ → Items → Bool
is_counted least most items = nat_le least (items_len items) && nat_le (items_len items) most

abbrev pub counted : ℕ → ℕ → Items → Option Items
counted least most items = if is_counted least most items then Some items else None

-- a list of least to most items
abbrev pub list_from : ℕ → ℕ → Data → Option Items
list_from least most d = option_and_then (counted least most) (as_array d)

-- whether the value is a list of so many items
abbrev pub has_items : ℕ → Data → Bool
has_items count d = is_some (list_from count count d)

-- the item of a list at the index, of a kind
abbrev pub item_in : {A : Type 0} → (Data → Option A) → ℕ → Data → Option A
item_in kind index d = option_and_then kind (at index d)

-- a list of two integers from least to most: x and y of a cell or a point
abbrev pub pair_from : ℤ → ℤ → Data → Option (ℤ × ℤ)
pair_from least most d =
    if has_items 2 d then option_zip (item_in (integer_from least most) 0 d) (item_in (integer_from least most) 1 d) else None

-- a list of four numbers: integers x and y from least to most, and whole width and height from least_side to most_side
abbrev pub rectangle_from : ℤ → ℤ → ℕ → ℕ → Data → Option ((ℤ × ℤ) × (ℕ × ℕ))
rectangle_from least most least_side most_side d =
    if has_items 4 d
    then option_zip (option_zip (item_in (integer_from least most) 0 d) (item_in (integer_from least most) 1 d))
    (option_zip (item_in (whole_from least_side most_side) 2 d) (item_in (whole_from least_side most_side) 3 d))
    else None

-- a value of the kind, or null, which stands for none
abbrev pub or_null : {A : Type 0} → (Data → Option A) → Data → Option (Option A)
or_null kind null = Some None
or_null kind (boolean b) = option_map Some (kind (boolean b))
or_null kind (number n) = option_map Some (kind (number n))
or_null kind (string s) = option_map Some (kind (string s))
or_null kind (array items) = option_map Some (kind (array items))
or_null kind (object members) = option_map Some (kind (object members))
