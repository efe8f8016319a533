-- The line of a message holds no LF.
use Rattle.std.specs.Prelude.{ℕ, List}
use Rattle.json_fields.specs.Lines.{IsOneLine}
use Rattle.json_fields.proofs.OneLine.{IsOneLine-compact_text}
use Rattle.chat.specs.declared.to.To.{To}
use Rattle.chat.specs.Messages.{message_line, message_tree}

pub message_is_one_line : (from : ℕ) (to : To) (text : List ℕ) → IsOneLine (message_line from to text)
unfolding message_line
message_is_one_line from to text = IsOneLine-compact_text (message_tree from to text)
