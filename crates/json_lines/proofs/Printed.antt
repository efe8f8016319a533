-- What is printed for the tokens of a value is its compact text.
use Rattle.std.proofs.Common.{◌≡◌, ℕ, List}
use Rattle.json.specs.Print.{print}
use Rattle.serde_json.specs.Data.{Data}
use Rattle.serde_json.specs.Written.{compact_text}
use Rattle.serde_json.proofs.Texts.{print-outline}
use Rattle.json_fields.specs.Lines.{IsOneLine}
use Rattle.json_fields.proofs.OneLine.{IsOneLine-compact_text}
use Rattle.json_lines.specs.declared.objects.Plain.{Plain}
use Rattle.json_lines.specs.Objects.{object_data}
use Rattle.json_lines.specs.Tokens.{value_tokens}

pub value_text : (d : Data) → print (value_tokens d) ≡ compact_text d
value_text = print-outline

pub object_text : (ms : List (List ℕ × Plain)) → print (value_tokens (object_data ms)) ≡ compact_text (object_data ms)
object_text ms = value_text (object_data ms)

pub object_is_one_line : (ms : List (List ℕ × Plain)) → IsOneLine (compact_text (object_data ms))
object_is_one_line ms = IsOneLine-compact_text (object_data ms)
