-- The lines that show a seat what it sees.
use Rattle.std.specs.Prelude.{ℕ, List, Option, option_map}
use Rattle.views.specs.declared.view.View.{View}
use Rattle.view_change.specs.Change.{change_of}
use Rattle.view_lines.specs.Lines.{change_line as line_of}

-- the change line between two views, none where they are equal
unfoldable pub change_line : View → View → Option (List ℕ)
change_line before after = option_map line_of (change_of before after)
