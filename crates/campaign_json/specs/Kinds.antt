-- The kinds of value of the campaign text: what a value of the kind stands for, or the rule that it breaks first.
use Rattle.std.specs.Prelude.{ℕ, ℤ, ◌&&◌, ◌||◌, ◌==◌, nat_le, Bool, List, Option, Some, None, Result, Ok, if◌then◌else◌}
use Rattle.std.specs.List.{list_all}
use Rattle.std.specs.Result.{result_ok}
use Rattle.hex.specs.Hex.{decode_sized}
use Rattle.names.specs.Tag.{tag_of}
use Rattle.names.specs.TokenId.{id_of}
use Rattle.names.specs.Words.{mode_of, layer_of}
use Rattle.names.specs.declared.kinds.Layer.{Layer}
use Rattle.names.specs.declared.kinds.Mode.{Mode}
use Rattle.names.specs.declared.token_id.TokenId.{TokenId}
use Rattle.serde_json.specs.Data.{Data, Items, Members}
use Rattle.serde_json.specs.Events.{members_len}
use Rattle.serde_json.specs.Find.{as_bool, as_str, as_array, as_object}
use Rattle.json_fields.specs.Kinds.{integer_of, within, sized, counted}
use Rattle.json_fields.specs.Fields.{unknown_in}
use Rattle.json_fields.specs.Objects.{◌>>=◌}
use Rattle.campaign_json.specs.declared.faults.Rule.TheVariants.{Unknown, Kind, Range, Form, Cross}
use Rattle.campaign_json.specs.declared.faults.BadCampaign.{BadCampaign}
use Rattle.campaign_json.specs.declared.formats.Format.{Format}
use Rattle.campaign_json.specs.declared.formats.Format.TheVariants.{First, Second}
use Rattle.campaign_json.specs.Reading.{broken, needed, asked}

-- a whole number from least to most
abbrev pub whole : ℕ → ℕ → Data → Result ℕ BadCampaign
whole least most d = do
  number ← needed Kind (integer_of d)
  needed Range (within least most number)

-- a text of least to most bytes
abbrev pub text : ℕ → ℕ → Data → Result (List ℕ) BadCampaign
text least most d = do
  bytes ← needed Kind (as_str d)
  needed Range (sized least most bytes)

-- a list of least to most items
abbrev pub list : ℕ → ℕ → Data → Result Items BadCampaign
list least most d = do
  items ← needed Kind (as_array d)
  needed Range (counted least most items)

-- a list of so many items
abbrev pub exactly : ℕ → Data → Result (Unit {0}) BadCampaign
exactly count d = do
  items ← list count count d
  Ok tt

abbrev pub object : Data → Result (Unit {0}) BadCampaign
object d = do
  members ← needed Kind (as_object d)
  Ok tt

-- no keys beside the known ones
abbrev pub only_known : Option (List ℕ) → Result (Unit {0}) BadCampaign
only_known None = Ok tt
only_known (Some key) = broken Unknown

abbrev pub only : List (List ℕ) → Data → Result (Unit {0}) BadCampaign
only known d = only_known (unknown_in known d)

-- a whole number
abbrev pub integer : Data → Result ℤ BadCampaign
integer d = needed Kind (integer_of d)

-- true or false
abbrev pub boolean : Data → Result Bool BadCampaign
boolean d = needed Kind (as_bool d)

-- the number that the text gives its format
abbrev pub format_number : Format → ℕ
format_number First = 1
format_number Second = 2

-- the format of a number, 1 or 2
abbrev pub format_of : ℕ → Format
format_of number = if number == 1 then First else Second

abbrev pub format : Data → Result Format BadCampaign
format d = do
  number ← whole 1 2 d
  Ok (format_of number)

-- the members of an object, at most so many
abbrev pub members : ℕ → Data → Result Members BadCampaign
members most d = do
  all ← needed Kind (as_object d)
  few ← asked Range (nat_le (members_len all) most)
  Ok all

-- a list of any number of items
abbrev pub items : Data → Result Items BadCampaign
items d = needed Kind (as_array d)

-- an object of any number of members
abbrev pub entries : Data → Result Members BadCampaign
entries d = needed Kind (as_object d)

-- the name of something that was read before
abbrev pub name : Data → Result (List ℕ) BadCampaign
name d = do
  bytes ← needed Kind (as_str d)
  needed Cross (tag_of bytes)

-- ---- texts of a grammar

-- what a text stands for in a grammar
abbrev pub text_of : {A : Type 0} → (List ℕ → Option A) → Data → Result A BadCampaign
text_of grammar d = do
  bytes ← needed Kind (as_str d)
  needed Form (grammar bytes)

abbrev pub tag : Data → Result (List ℕ) BadCampaign
tag d = text_of tag_of d

abbrev pub mode : Data → Result Mode BadCampaign
mode d = text_of mode_of d

abbrev pub layer : Data → Result Layer BadCampaign
layer d = text_of layer_of d

-- the id of a token
abbrev pub id : Data → Result TokenId BadCampaign
id d = text_of id_of d

-- ---- seeds

-- 0 to 9, or a to f
abbrev pub is_lower_hex : ℕ → Bool
is_lower_hex byte = (nat_le 48 byte && nat_le byte 57) || (nat_le 97 byte && nat_le byte 102)

-- the 32 bytes of 64 digits in lower case
unfoldable pub seed_of : List ℕ → Option (List ℕ)
seed_of digits = if list_all is_lower_hex digits then result_ok (decode_sized digits 32) else None

unfoldable pub seed : Data → Result (List ℕ) BadCampaign
seed d = do
  digits ← text 64 64 d
  needed Form (seed_of digits)
