use Rattle.std.proofs.Common.{◌≡◌, ◌≤◌, ◌+◌, ◌*◌, length}
use Rattle.macro_grammar.specs.Tree.{Tree}
use Rattle.macro_parse.specs.Flat.{Shows, Grows}
use Rattle.macro_parse.proofs.Loops.{rank, SoFar}
use Rattle.macro_parse.proofs.reader.Reader.+chain.Given as goal

abbrev pub decreases-arguments : goal.decreases-arguments
decreases-arguments l = 32 * l.depth

abbrev pub decreases-word : goal.decreases-word
decreases-word l = 32 * l.depth + 1

abbrev pub decreases-atom : goal.decreases-atom
decreases-atom l = 32 * l.depth + 2

abbrev pub decreases-inner : goal.decreases-inner
decreases-inner l = 32 * l.depth + 3

abbrev pub decreases-unary : goal.decreases-unary
decreases-unary l = 32 * l.depth + 4

abbrev pub decreases-operand : goal.decreases-operand
decreases-operand l = 32 * l.depth + (4 * rank l.level + 5)

abbrev pub decreases-step : goal.decreases-step
decreases-step l = 32 * l.depth + (4 * rank l.level + 6)

abbrev pub decreases-more : goal.decreases-more
decreases-more l = 32 * l.depth + (4 * rank l.level + 7)

abbrev pub decreases-chain : goal.decreases-chain
decreases-chain l = 32 * l.depth + (4 * rank l.level + 8)

abbrev pub decreases-compared_with : goal.decreases-compared_with
decreases-compared_with l = 32 * l.depth + 15

abbrev pub decreases-compared : goal.decreases-compared
decreases-compared l = 32 * l.depth + 16

abbrev pub decreases-argument : goal.decreases-argument
decreases-argument l = 32 * l.depth + 25

abbrev pub decreases-group : goal.decreases-group
decreases-group l = 32 * l.depth + 26

abbrev pub invariant-more-loop-next : goal.invariant-more-loop-next
invariant-more-loop-next l = record {
  told : (x : Tree) → Shows l.fn.self.nodes.items l.fn.left x → (y : Tree) × Grows x l.fn.self.nodes.items l.self.nodes.items l.whole y × SoFar l.level l.depth l.fn.self.end l.fn.self.cursor.rest.now x l.self.cursor.rest.now y;
  end : l.self.end ≡ l.fn.self.end;
  shrinks : length l.self.cursor.rest.now ≤ length l.fn.self.cursor.rest.now;
}

abbrev pub decreases-more-loop-next : goal.decreases-more-loop-next
decreases-more-loop-next l = length l.self.cursor.rest.now
