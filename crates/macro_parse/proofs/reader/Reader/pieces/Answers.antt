use Rattle.std.proofs.Common.{◌-◌, ℕ, [], ◌++◌, Err, refl, subst, ◌∙◌, arith}
use Rattle.macro_parse.specs.Turns.{TurnGives}
use Rattle.macro_parse.proofs.PiecesFound.{adds_none, adds_join, turns_first, turns_next, turns_end, turns_stop, pieces_residual}
use Rattle.macro_parse.proofs.reader.Reader.pieces.Goals as goal

pub loop-pieces-init : goal.loop-pieces-init
loop-pieces-init c =
    record { told = ([], rw c.new-pieces.ensures.items (adds_none c.args.self.now.nodes.items), turns_first (c.args.depth - 1) c.args.self.now.end c.args.self.now.cursor.rest.now); end = refl; shrinks = omega arith }

pub returns-in_err-turn-clause-value : goal.returns-in_err-turn-clause-value
returns-in_err-turn-clause-value c =
    let i = c.loop-pieces.invariant.told in
    let g = subst (λ (e : ℕ). TurnGives (c.args.depth - 1) e c.loop-pieces.pieces.items c.turn.new.pieces.items c.loop-pieces.self.nodes.items c.turn.new.self.nodes.items (Err c.in_err-turn.field-0.0) c.loop-pieces.self.cursor.rest.now c.turn.new.self.cursor.rest.now) c.loop-pieces.invariant.end c.in_err-turn.ensures.value in
    pieces_residual (c.args.depth - 1) c.args.self.now.end c.args.self.now.nodes.items c.turn.new.self.nodes.items c.from_residual.result c.in_err-turn.field-0.0 c.args.self.now.cursor.rest.now c.turn.new.self.cursor.rest.now c.from_residual.ensures.1
    (turns_stop (c.args.depth - 1) c.args.self.now.end c.args.self.now.cursor.rest.now c.loop-pieces.self.cursor.rest.now c.turn.new.self.cursor.rest.now i.0 c.loop-pieces.pieces.items c.turn.new.pieces.items c.args.self.now.nodes.items c.loop-pieces.self.nodes.items c.turn.new.self.nodes.items c.in_err-turn.field-0.0 i.2 g)

pub loop-pieces-preserved : goal.loop-pieces-preserved
loop-pieces-preserved c =
    let i = c.loop-pieces.invariant.told in
    let g = rw (c.if-branch.true, c.loop-pieces.invariant.end) at c.in_ok-turn.ensures.value in
    let put = g.1 in
    let items = put.1 in
    record {
      told = (i.0 ++ g.0, rw items (adds_join c.args.self.now.nodes.items c.loop-pieces.self.nodes.items c.turn.new.self.nodes.items c.loop-pieces.pieces.items put.0 i.0 g.0 i.1 put.2), turns_next (c.args.depth - 1) c.args.self.now.end c.args.self.now.cursor.rest.now c.loop-pieces.self.cursor.rest.now c.turn.new.self.cursor.rest.now i.0 g.0 i.2 (c.in_ok-turn.ensures.shorter c.if-branch.true) g.2);
      end = c.turn.ensures.end ∙ c.loop-pieces.invariant.end;
      shrinks = omega (arith, c.turn.ensures.shrinks, c.loop-pieces.invariant.shrinks);
    }

pub returns-clause-value : goal.returns-clause-value
returns-clause-value c =
    let i = c.loop-pieces.invariant.told in
    let g = rw (c.if-branch.false, c.loop-pieces.invariant.end) at c.in_ok-turn.ensures.value in
    let put = g.1 in
    let items = put.1 in
    (i.0 ++ g.0, rw items (adds_join c.args.self.now.nodes.items c.loop-pieces.self.nodes.items c.turn.new.self.nodes.items c.loop-pieces.pieces.items put.0 i.0 g.0 i.1 put.2), λ turns lt. turns_end (c.args.depth - 1) c.args.self.now.end c.args.self.now.cursor.rest.now c.loop-pieces.self.cursor.rest.now i.0 g.0 i.2 g.3 turns lt)
