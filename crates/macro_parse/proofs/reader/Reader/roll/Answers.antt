use Rattle.std.proofs.Common.{◌-◌, ℕ, Err, subst, ◌∙◌, arith}
use Rattle.macro_grammar.specs.Readers.{roll_at, statement_at}
use Rattle.macro_grammar.specs.Limits.{PieceFits}
use Rattle.macro_parse.specs.Flat.{Puts, Finds, place}
use Rattle.macro_parse.specs.FlatPieces.{ShowsPiece, Adds}
use Rattle.macro_parse.proofs.Finding.{finds_residual}
use Rattle.macro_parse.proofs.RollsWhole.{roll_opens, roll_stops, options_stop, colon_stops, statement_stops, roll_found}
use Rattle.macro_parse.proofs.reader.Reader.roll.Goals as goal

pub returns-in_err-expect-clause-value : goal.returns-in_err-expect-clause-value
returns-in_err-expect-clause-value c =
    finds_residual (Adds ShowsPiece PieceFits c.args.self.now.nodes.items c.args.self.now.nodes.items) (λ turns. roll_at (c.args.depth - 1) turns (place c.args.self.now.end c.args.self.now.cursor.rest.now)) c.from_residual.result c.in_err-expect.field-0.0 c.args.self.now.cursor.rest.now c.expect.new.cursor.rest.now c.from_residual.ensures.1
    (roll_stops (c.args.depth - 1) c.args.self.now.end c.args.self.now.cursor.rest.now c.expect.new.cursor.rest.now c.requires.place (Adds ShowsPiece PieceFits c.args.self.now.nodes.items c.args.self.now.nodes.items) c.in_err-expect.field-0.0 c.in_err-expect.ensures.value)

pub returns-in_err-options-clause-value : goal.returns-in_err-options-clause-value
returns-in_err-options-clause-value c =
    finds_residual (Adds ShowsPiece PieceFits c.args.self.now.nodes.items c.options.new.self.nodes.items) (λ turns. roll_at (c.args.depth - 1) turns (place c.args.self.now.end c.args.self.now.cursor.rest.now)) c.from_residual-in_err-options.result c.in_err-options.field-0.0 c.args.self.now.cursor.rest.now c.options.new.self.cursor.rest.now c.from_residual-in_err-options.ensures.1
    (roll_opens (c.args.depth - 1) c.args.self.now.end c.args.self.now.cursor.rest.now c.expect.new.cursor.rest.now c.requires.place (Adds ShowsPiece PieceFits c.args.self.now.nodes.items c.options.new.self.nodes.items) (Err c.in_err-options.field-0.0) c.options.new.self.cursor.rest.now c.in_ok-expect.ensures.value (options_stop (c.args.depth - 1) c.args.self.now.end (place c.args.self.now.end c.args.self.now.cursor.rest.now) c.expect.new.cursor.rest.now c.options.new.self.cursor.rest.now c.args.self.now.nodes.items c.options.new.self.nodes.items (omega (arith, c.requires.place, c.expect.ensures.shrinks)) c.options.ensures.shrinks (Adds ShowsPiece PieceFits c.args.self.now.nodes.items c.options.new.self.nodes.items) c.in_err-options.field-0.0 c.in_err-options.ensures.value))

pub returns-in_err-expect-2-clause-value : goal.returns-in_err-expect-2-clause-value
returns-in_err-expect-2-clause-value c =
    finds_residual (Adds ShowsPiece PieceFits c.args.self.now.nodes.items c.options.new.self.nodes.items) (λ turns. roll_at (c.args.depth - 1) turns (place c.args.self.now.end c.args.self.now.cursor.rest.now)) c.from_residual-in_err-expect-2.result c.in_err-expect-2.field-0.0 c.args.self.now.cursor.rest.now c.expect-2.new.cursor.rest.now c.from_residual-in_err-expect-2.ensures.1
    (roll_opens (c.args.depth - 1) c.args.self.now.end c.args.self.now.cursor.rest.now c.expect.new.cursor.rest.now c.requires.place (Adds ShowsPiece PieceFits c.args.self.now.nodes.items c.options.new.self.nodes.items) (Err c.in_err-expect-2.field-0.0) c.expect-2.new.cursor.rest.now c.in_ok-expect.ensures.value (colon_stops (c.args.depth - 1) c.args.self.now.end (place c.args.self.now.end c.args.self.now.cursor.rest.now) c.expect.new.cursor.rest.now c.options.new.self.cursor.rest.now c.args.self.now.nodes.items c.options.new.self.nodes.items (omega (arith, c.requires.place, c.expect.ensures.shrinks)) c.options.ensures.shrinks c.in_ok-options.options c.in_ok-options.ensures.value (Adds ShowsPiece PieceFits c.args.self.now.nodes.items c.options.new.self.nodes.items) c.in_err-expect-2.field-0.0 c.expect-2.new.cursor.rest.now c.in_err-expect-2.ensures.value))

pub returns-in_err-first-clause-value : goal.returns-in_err-first-clause-value
returns-in_err-first-clause-value c =
    let g = subst (λ (e : ℕ). Finds (Puts c.options.new.self.nodes.items c.statement.new.self.nodes.items) (λ turns. statement_at (c.args.depth - 1) turns (place e c.expect-2.new.cursor.rest.now)) (Err c.in_err-first.field-0.0) c.expect-2.new.cursor.rest.now c.statement.new.self.cursor.rest.now) c.options.ensures.end c.in_err-first.ensures.value in
    finds_residual (Adds ShowsPiece PieceFits c.args.self.now.nodes.items c.statement.new.self.nodes.items) (λ turns. roll_at (c.args.depth - 1) turns (place c.args.self.now.end c.args.self.now.cursor.rest.now)) c.from_residual-in_err-first.result c.in_err-first.field-0.0 c.args.self.now.cursor.rest.now c.statement.new.self.cursor.rest.now c.from_residual-in_err-first.ensures.1
    (roll_opens (c.args.depth - 1) c.args.self.now.end c.args.self.now.cursor.rest.now c.expect.new.cursor.rest.now c.requires.place (Adds ShowsPiece PieceFits c.args.self.now.nodes.items c.statement.new.self.nodes.items) (Err c.in_err-first.field-0.0) c.statement.new.self.cursor.rest.now c.in_ok-expect.ensures.value (statement_stops (c.args.depth - 1) c.args.self.now.end (place c.args.self.now.end c.args.self.now.cursor.rest.now) c.expect.new.cursor.rest.now c.options.new.self.cursor.rest.now c.args.self.now.nodes.items c.options.new.self.nodes.items (omega (arith, c.requires.place, c.expect.ensures.shrinks)) c.options.ensures.shrinks c.in_ok-options.options c.in_ok-options.ensures.value c.expect-2.new.cursor.rest.now c.statement.new.self.cursor.rest.now c.statement.new.self.nodes.items c.in_ok-expect-2.ensures.value c.statement.ensures.shrinks (Adds ShowsPiece PieceFits c.args.self.now.nodes.items c.statement.new.self.nodes.items) c.in_err-first.field-0.0 g))

pub returns-clause-value : goal.returns-clause-value
returns-clause-value c =
    let g = rw c.options.ensures.end at c.in_ok-first.ensures.value in
    let last = rw (c.at-at.ensures, c.statement.ensures.end ∙ c.options.ensures.end) at c.roll_end.ensures.value in
    (roll_opens (c.args.depth - 1) c.args.self.now.end c.args.self.now.cursor.rest.now c.expect.new.cursor.rest.now c.requires.place (Adds ShowsPiece PieceFits c.args.self.now.nodes.items c.roll_end.new.self.nodes.items) c.roll_end.result c.roll_end.new.self.cursor.rest.now c.in_ok-expect.ensures.value (roll_found (c.args.depth - 1) c.args.self.now.end (place c.args.self.now.end c.args.self.now.cursor.rest.now) c.expect.new.cursor.rest.now c.options.new.self.cursor.rest.now c.args.self.now.nodes.items c.options.new.self.nodes.items (omega (arith, c.requires.place, c.expect.ensures.shrinks)) c.options.ensures.shrinks c.in_ok-options.options c.in_ok-options.ensures.value c.expect-2.new.cursor.rest.now c.statement.new.self.cursor.rest.now c.statement.new.self.nodes.items c.in_ok-expect-2.ensures.value c.statement.ensures.shrinks c.in_ok-first.first c.roll_end.result c.roll_end.new.self.cursor.rest.now c.roll_end.new.self.nodes.items g last))
