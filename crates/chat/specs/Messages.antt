-- The line of a message: the compact JSON of a tree.
use Rattle.std.specs.Prelude.{ℕ, List, codes}
use Rattle.serde_json.specs.Data.{Data, unsigned, number, string, object, member, no_members}
use Rattle.serde_json.specs.Written.{compact_text}
use Rattle.json_fields.specs.Lines.{IsOneLine}
use Rattle.chat.specs.declared.to.To.{To}
use Rattle.chat.specs.declared.to.To.TheVariants.{SelfOnly, Gm, GmSelf, All, Seat}

-- an address as a message shows it: a word, or the named seat's number
abbrev pub address : To → Data
address SelfOnly = string (codes "self")
address Gm = string (codes "gm")
address GmSelf = string (codes "gmself")
address All = string (codes "all")
address (Seat named) = number (unsigned named)

abbrev pub message_tree : ℕ → To → List ℕ → Data
message_tree from to text = object
    (member (codes "from") (number (unsigned from))
    (member (codes "text") (string text)
    (member (codes "to") (address to) no_members)))

unfoldable pub message_line : ℕ → To → List ℕ → List ℕ
message_line from to text = compact_text (message_tree from to text)

-- no message holds an LF, so that a text of lines tells them apart
abbrev pub MessagesAreOneLine : Type 0
MessagesAreOneLine = (from : ℕ) (to : To) (text : List ℕ) → IsOneLine (message_line from to text)
