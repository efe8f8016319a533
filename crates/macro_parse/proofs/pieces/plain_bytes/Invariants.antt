use Rattle.std.proofs.Common.{◌≡◌, ◌≤◌, false, length}
use Rattle.macro_grammar.specs.Readers.{plain_text}
use Rattle.macro_parse.specs.Found.{with_bytes}
use Rattle.macro_parse.proofs.pieces.plain_bytes.Given as goal

abbrev pub invariant-loop-text : goal.invariant-loop-text
invariant-loop-text l = record {
  told : plain_text false l.fn.cursor.rest.now ≡ with_bytes l.text.items (plain_text false l.cursor.rest.now);
  shrinks : length l.cursor.rest.now ≤ length l.fn.cursor.rest.now;
}

abbrev pub decreases-loop-text : goal.decreases-loop-text
decreases-loop-text l = length l.cursor.rest.now
