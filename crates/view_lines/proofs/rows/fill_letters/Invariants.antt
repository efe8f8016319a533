use Rattle.std.proofs.Common.{◌≡◌, take}
use Rattle.std.specs.Prelude.{string_bytes}
use Rattle.view_lines.specs.Lines.{letters_of_run}
use Rattle.view_lines.proofs.rows.fill_letters.Given as goal

abbrev pub invariant-loop-cell : goal.invariant-loop-cell
invariant-loop-cell l = string_bytes l.text ≡ letters_of_run (take l.cell-index l.letters) l.run
