-- A macro's new text has room in the book, where the rule of the text isn't broken.
use Rattle.std.proofs.Common.{◌≡◌, ℕ, List, Some, None, refl}
use Rattle.std.specs.Prelude.{Option, option_map}
use Rattle.seats.specs.declared.book_fault.BookFault.{BookFault}
use Rattle.seats.specs.Book.{macro_fault}
use Rattle.macro_parse.specs.Answers.{macro_of as pieces_of_text}
use Rattle.command_rules.specs.GmRules.{then_rule}
use Rattle.command_rules.specs.MacroRules.{Macros, of_book_fault, spelling_rule, new_text_rule}

pub has_room : (macros : Macros) (name text : List ℕ) → new_text_rule macros name (Some text) ≡ None → macro_fault macros name ≡ None
has_room macros name text h = by (macro_fault macros name) h
  where
    by : (o : Option BookFault) → then_rule (option_map of_book_fault o) (spelling_rule (pieces_of_text text)) ≡ None → o ≡ None
    by None e = refl
    by (Some fault) e = cc
