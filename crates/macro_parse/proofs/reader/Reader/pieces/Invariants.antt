use Rattle.std.proofs.Common.{◌≡◌, ◌≤◌, ◌-◌, List, length}
use Rattle.macro_grammar.specs.Tree.{Piece}
use Rattle.macro_grammar.specs.Limits.{PiecesFit}
use Rattle.macro_parse.specs.FlatPieces.{ShowsPieces, Adds}
use Rattle.macro_parse.proofs.PiecesFound.{TurnsSoFar}
use Rattle.macro_parse.proofs.reader.Reader.pieces.Given as goal

abbrev pub invariant-loop-pieces : goal.invariant-loop-pieces
invariant-loop-pieces l = record {
  told : (ts : List Piece) × Adds ShowsPieces PiecesFit l.fn.self.nodes.items l.self.nodes.items l.pieces.items ts × TurnsSoFar (l.depth - 1) l.fn.self.end l.fn.self.cursor.rest.now l.self.cursor.rest.now ts;
  end : l.self.end ≡ l.fn.self.end;
  shrinks : length l.self.cursor.rest.now ≤ length l.fn.self.cursor.rest.now;
}

abbrev pub decreases-loop-pieces : goal.decreases-loop-pieces
decreases-loop-pieces l = length l.self.cursor.rest.now
