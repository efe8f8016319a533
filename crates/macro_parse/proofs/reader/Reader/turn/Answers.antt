use Rattle.std.proofs.Common.{◌-◌}
use Rattle.macro_parse.proofs.PiecesFound.{plain_last, plain_then_roll, plain_then_stops, turn_residual, not_empty, is_empty}
use Rattle.macro_parse.proofs.reader.Reader.turn.Goals as goal

pub returns-then-is_empty-2-clause-value : goal.returns-then-is_empty-2-clause-value
returns-then-is_empty-2-clause-value c =
    plain_last (c.args.depth - 1) c.args.self.now.end c.at-at.result c.in_ok-text.text c.args.self.now.cursor.rest.now c.plain.new.cursor.rest.now c.args.pieces.now.items c.put.new.pieces.items c.args.self.now.nodes.items c.requires.place c.plain.ensures.shrinks c.if-next_is.ensures (not_empty c.args.self.now.cursor.rest.now c.is_empty.result c.is_empty.ensures c.if-is_empty.false) c.in_ok-text.ensures.value c.at-at.ensures c.in_ok-put.ensures.items (is_empty c.plain.new.cursor.rest.now c.is_empty-2.result c.is_empty-2.ensures c.if-is_empty-2.true)

pub returns-in_err-put_roll-2-clause-value : goal.returns-in_err-put_roll-2-clause-value
returns-in_err-put_roll-2-clause-value c =
    turn_residual (c.args.depth - 1) c.args.self.now.end c.args.self.now.cursor.rest.now c.put_roll-2.new.self.cursor.rest.now c.args.pieces.now.items c.put_roll-2.new.pieces.items c.args.self.now.nodes.items c.put_roll-2.new.self.nodes.items c.from_residual-in_err-put_roll-2.result c.in_err-put_roll-2.field-0.0 c.from_residual-in_err-put_roll-2.ensures.1
    (plain_then_stops (c.args.depth - 1) c.args.self.now.end c.at-at.result c.in_ok-text.text c.args.self.now.cursor.rest.now c.plain.new.cursor.rest.now c.args.pieces.now.items c.put.new.pieces.items c.args.self.now.nodes.items c.requires.place c.plain.ensures.shrinks c.if-next_is.ensures (not_empty c.args.self.now.cursor.rest.now c.is_empty.result c.is_empty.ensures c.if-is_empty.false) c.in_ok-text.ensures.value c.at-at.ensures c.in_ok-put.ensures.items (not_empty c.plain.new.cursor.rest.now c.is_empty-2.result c.is_empty-2.ensures c.if-is_empty-2.false) c.put_roll-2.new.self.cursor.rest.now c.put_roll-2.new.pieces.items c.put_roll-2.new.self.nodes.items c.put_roll-2.ensures.shrinks c.in_err-put_roll-2.field-0.0 c.in_err-put_roll-2.ensures.value)

pub returns-clause-value : goal.returns-clause-value
returns-clause-value c =
    plain_then_roll (c.args.depth - 1) c.args.self.now.end c.at-at.result c.in_ok-text.text c.args.self.now.cursor.rest.now c.plain.new.cursor.rest.now c.args.pieces.now.items c.put.new.pieces.items c.args.self.now.nodes.items c.requires.place c.plain.ensures.shrinks c.if-next_is.ensures (not_empty c.args.self.now.cursor.rest.now c.is_empty.result c.is_empty.ensures c.if-is_empty.false) c.in_ok-text.ensures.value c.at-at.ensures c.in_ok-put.ensures.items (not_empty c.plain.new.cursor.rest.now c.is_empty-2.result c.is_empty-2.ensures c.if-is_empty-2.false) c.put_roll-2.new.self.cursor.rest.now c.put_roll-2.new.pieces.items c.put_roll-2.new.self.nodes.items c.put_roll-2.ensures.shrinks c.in_ok-put_roll-2.field-0 c.in_ok-put_roll-2.ensures.value
