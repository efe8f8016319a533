-- The text of an object with one member.
use Rattle.std.proofs.Common.{◌≡◌, ℕ, List}
use Rattle.json.specs.Print.{print}
use Rattle.serde_json.specs.Data.{Data, object, member, no_members}
use Rattle.serde_json.specs.Written.{compact_text}
use Rattle.json_fields.specs.Lines.{IsOneLine}
use Rattle.json_fields.proofs.OneLine.{IsOneLine-compact_text}
use Rattle.json_lines.specs.Tokens.{value_tokens}
use Rattle.json_lines.proofs.Printed.{value_text}

pub member_text : (key : List ℕ) (d : Data) → print (value_tokens (object (member key d no_members))) ≡ compact_text (object (member key d no_members))
member_text key d = value_text (object (member key d no_members))

pub member_is_one_line : (key : List ℕ) (d : Data) → IsOneLine (compact_text (object (member key d no_members)))
member_is_one_line key d = IsOneLine-compact_text (object (member key d no_members))
