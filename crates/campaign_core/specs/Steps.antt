-- Outcomes in parts: the book, and a dump.
use Rattle.std.specs.Prelude.{Bool, false, Option, Some, None}
use Rattle.seats.specs.Book.{Book}
use Rattle.command_json.specs.declared.command.Command.{Command}
use Rattle.campaign_law.specs.Outcome.{Outcome, is_dump}

-- with this book
unfoldable pub with_book : Outcome → Option Book → Outcome
with_book o book = record o { book = book }

-- what was accepted is a dump
abbrev pub is_dumped : Option Command → Bool
is_dumped None = false
is_dumped (Some c) = is_dump c
