-- The fields of a command, and the kinds of value that only commands have.
use Rattle.std.specs.Prelude.{ℕ, ℤ, pos, negsuc, List, [], ◌∷◌, Option, Some, None, option_and_then, option_map, Result, if◌then◌else◌, codes}
use Rattle.std.specs.Option.{option_or, option_zip}
use Rattle.names.specs.Letters.{is_letter}
use Rattle.serde_json.specs.Data.{Data, Items, no_items, item}
use Rattle.serde_json.specs.Find.{as_str}
use Rattle.json_fields.specs.Fields.{field_in, field_or, unknown_in}
use Rattle.json_fields.specs.Kinds.{integer_from, text_from, whole_from, word_from, pair_from, rectangle_from, list_from}
use Rattle.json_fields.specs.Objects.{needed, unless_unknown}
use Rattle.chat.specs.declared.to.To.{To}
use Rattle.chat.specs.declared.to.To.TheVariants.{SelfOnly, Gm, GmSelf, All, Seat}
use Rattle.command_json.specs.declared.command.Command.{Command}
use Rattle.command_json.specs.declared.command.LineFault.{LineFault}
use Rattle.command_json.specs.declared.command.LineFault.TheVariants.{BadField}

-- the value at the key, of a kind; where the key is missing or its value is of another kind, the key's fault
abbrev pub field : {A : Type 0} → List ℕ → (Data → Option A) → Data → Result A LineFault
field key kind d = needed BadField key (field_in kind key d)

-- the same of a field that may be missing, and stands for the default there
abbrev pub field_else : {A : Type 0} → A → List ℕ → (Data → Option A) → Data → Result A LineFault
field_else default key kind d = needed BadField key (field_or default kind key d)

-- the command, unless the object has a key beside `do` and these
abbrev pub only : List (List ℕ) → Data → Command → Result Command LineFault
only keys d command = unless_unknown BadField (unknown_in (codes "do" ∷ keys) d) command

-- ---- kinds

-- the words of addresses
abbrev pub to_words : List (List ℕ × To)
to_words = (codes "self", SelfOnly) ∷ (codes "gm", Gm) ∷ (codes "gmself", GmSelf) ∷ (codes "all", All) ∷ []

-- a word, or the number of a seat
unfoldable pub to_from : Data → Option To
to_from d = option_or (word_from to_words d) (option_map Seat (whole_from 0 32 d))

-- a whole number from least to most
abbrev pub number_from : ℕ → ℕ → Data → Option ℤ
number_from least most = integer_from (pos least) (pos most)

-- -1,000 and 1,000
abbrev pub least_place : ℤ
least_place = negsuc 999

abbrev pub most_place : ℤ
most_place = pos 1000

-- the least and the most radius of a light type that a command names; that of a darkness is negative
abbrev pub least_radius : ℤ
least_radius = negsuc 999

abbrev pub most_radius : ℤ
most_radius = pos 1000

-- the least and the most value of an entry in the fight
abbrev pub least_value : ℤ
least_value = negsuc 999

abbrev pub most_value : ℤ
most_value = pos 1000

-- x and y of a cell or a point
abbrev pub place_from : Data → Option (ℤ × ℤ)
place_from = pair_from least_place most_place

abbrev pub places_from : Items → Option (List (ℤ × ℤ))
places_from no_items = Some []
places_from (item d ds) = option_map (λ p. p.0 ∷ p.1) (option_zip (place_from d) (places_from ds))

-- 1 to 64 cells
unfoldable pub path_from : Data → Option (List (ℤ × ℤ))
path_from d = option_and_then places_from (list_from 1 64 d)

abbrev pub texts_from : Items → Option (List (List ℕ))
texts_from no_items = Some []
texts_from (item d ds) = option_map (λ p. p.0 ∷ p.1) (option_zip (text_from 0 200 d) (texts_from ds))

-- at most 8 texts of 0 to 200 bytes
unfoldable pub args_from : Data → Option (List (List ℕ))
args_from d = option_and_then texts_from (list_from 0 8 d)

-- x, y, width and height of a rectangle; the sides are 1 to 96
abbrev pub rect_from : Data → Option (ℤ × ℤ × ℤ × ℤ)
rect_from d = option_map (λ r. (r.0.0, r.0.1, pos r.1.0, pos r.1.1)) (rectangle_from least_place most_place 1 96 d)

-- one letter of terrain
abbrev pub letter_of : List ℕ → Option ℕ
letter_of [] = None
letter_of (letter ∷ []) = if is_letter letter then Some letter else None
letter_of (letter ∷ more ∷ rest) = None

abbrev pub letter_from : Data → Option ℕ
letter_from d = option_and_then letter_of (as_str d)
