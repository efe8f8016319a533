-- A seat's macros: members whose keys are the macros' names, with their texts.
use Rattle.std.specs.Prelude.{ℕ, List, [], is_none, codes, Result, Ok, Err}
use Rattle.names.specs.Tag.{tag_of}
use Rattle.serde_json.specs.Data.{Data}
use Rattle.json_fields.specs.Objects.{◌>>=◌}
use Rattle.macro_grammar.specs.Tree.{Piece}
use Rattle.macro_parse.specs.declared.texts.MacroParseFault.{MacroParseFault}
use Rattle.macro_parse.specs.declared.texts.MacroParseFault.TheVariants.{MacroSyntax, DiceLimit, Memory}
use Rattle.macro_parse.specs.Answers.{macro_of}
use Rattle.seats.specs.Book.{Book, macro_fault, with_macro}
use Rattle.campaign_json.specs.declared.faults.Rule.TheVariants.{Range, Form}
use Rattle.campaign_json.specs.declared.faults.BadCampaign.{BadCampaign}
use Rattle.campaign_json.specs.Reading.{broken, needed, asked, field, under, each_member}
use Rattle.campaign_json.specs.Kinds.{text, members}

-- a text off the grammar is off its form, and one of the grammar with dice off their limits is off its range; want of memory is
-- no answer of reading
abbrev pub spelled : Result (List Piece) MacroParseFault → Result (Unit {0}) BadCampaign
spelled (Ok pieces) = Ok tt
spelled (Err (MacroSyntax at)) = broken Form
spelled (Err DiceLimit) = broken Range
spelled (Err Memory) = broken Range

-- a macro more
unfoldable pub with_read : List ℕ → Book → Data → Result Book BadCampaign
with_read key book d = do
  name ← needed Form (tag_of key)
  words ← text 0 2000 d
  pieces ← spelled (macro_of words)
  room ← asked Range (is_none (macro_fault book.macros name))
  Ok (with_macro name words book)

-- the book with the macros of its seat
unfoldable pub macros : Book → Data → Result Book BadCampaign
macros book d = do
  texts ← field (codes "macros") (members 32) d
  under (codes "macros") (each_member with_read book texts)

-- a book but for its tags and macros
abbrev pub unfilled : Book → Book
unfilled book = record book { tags = []; macros = [] }
