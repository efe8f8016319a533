use Rattle.std.proofs.Common.{◌≡◌, ◌≤◌, ◌-◌, length}
use Rattle.reading.specs.Placed.{many_at}
use Rattle.macro_grammar.specs.Readers.{is_name_byte, name_at}
use Rattle.macro_parse.specs.Found.{with_bytes}
use Rattle.macro_parse.proofs.atoms.name.Given as goal

abbrev pub invariant-loop-place : goal.invariant-loop-place
invariant-loop-place l = record {
  name : name_at l.fn.cursor.rest.now ≡ with_bytes l.name.items (many_at is_name_byte (23 - l._place) l.cursor.rest.now);
  shrinks : length l.cursor.rest.now ≤ length l.fn.cursor.rest.now;
}
