-- The command that a line is, or the first fault.
use Rattle.std.specs.Prelude.{◌≡◌, ◌⊎◌, ℕ, Bool, true, List, ◌∷◌, Option, Some, None, option_map, IsSomeAnd, Result, Err, if◌then◌else◌, codes}
use Rattle.std.specs.List.{list_any}
use Rattle.std.specs.Option.{option_or}
use Rattle.std.specs.Str.{bytes_eq}
use Rattle.serde_json.specs.Data.{Data}
use Rattle.json_fields.specs.Fields.{word_in, IsLeastUnknownIn}
use Rattle.json_fields.specs.Values.{value_of}
use Rattle.command_json.specs.declared.command.Command.{Command}
use Rattle.command_json.specs.declared.command.LineFault.{LineFault}
use Rattle.command_json.specs.declared.command.LineFault.TheVariants.{BadJson, BadCommand, GmOnly, BadField}
use Rattle.command_json.specs.declared.verbs.Verb.{Verb}
use Rattle.command_json.specs.declared.verbs.GmVerb.{GmVerb}
use Rattle.command_json.specs.EverySeat.{fields_in}
use Rattle.command_json.specs.GameMaster.{gm_fields_in}
use Rattle.command_json.specs.Verbs.{verbs, gm_verbs, keys_of, gm_keys_of}

-- a command of the game master is refused to players before its fields are looked at
abbrev pub by_gm_verb : Data → Bool → Option GmVerb → Result Command LineFault
by_gm_verb d gm None = Err BadCommand
by_gm_verb d gm (Some verb) = if gm then gm_fields_in d verb else Err GmOnly

abbrev pub by_verb : Data → Bool → Option Verb → Result Command LineFault
by_verb d gm None = by_gm_verb d gm (word_in (codes "do") gm_verbs d)
by_verb d gm (Some verb) = fields_in d verb

unfoldable pub command_in : Data → Bool → Result Command LineFault
command_in d gm = by_verb d gm (word_in (codes "do") verbs d)

abbrev pub of_value : Bool → Option Data → Result Command LineFault
of_value gm None = Err BadJson
of_value gm (Some d) = command_in d gm

-- by the value that the bytes are, and nothing else in them
unfoldable pub command_of : List ℕ → Bool → Result Command LineFault
command_of bytes gm = of_value gm (value_of bytes)

-- ---- the key that a fault names

-- the keys of the fields of the command that `do` names
abbrev pub keys_in : Data → Option (List (List ℕ))
keys_in d = option_or (option_map keys_of (word_in (codes "do") verbs d)) (option_map gm_keys_of (word_in (codes "do") gm_verbs d))

-- it is the key of one of the command's fields, or the least unknown key of the object in the order of bytes
abbrev pub IsBadKeyOf : List (List ℕ) → Data → List ℕ → Type 0
IsBadKeyOf keys d key = (list_any (λ name. bytes_eq name key) keys ≡ true) ⊎ IsLeastUnknownIn (codes "do" ∷ keys) d key

abbrev pub NamesBadKey : List ℕ → LineFault → Type 0
NamesBadKey bytes (BadField key) = IsSomeAnd (value_of bytes) (λ d. IsSomeAnd (keys_in d) (λ keys. IsBadKeyOf keys d key))
NamesBadKey bytes fault = Unit {0}
