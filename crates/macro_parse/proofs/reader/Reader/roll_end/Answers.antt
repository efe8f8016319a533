use Rattle.std.proofs.Common.{◌-◌, sym, ◌∙◌}
use Rattle.macro_grammar.specs.Readers.{roll_end}
use Rattle.macro_parse.specs.Flat.{place}
use Rattle.macro_parse.specs.FlatPieces.{AddsRoll}
use Rattle.macro_parse.proofs.Finding.{finds_residual}
use Rattle.macro_parse.proofs.RollsWhole.{end_none, end_some, end_open}
use Rattle.macro_parse.proofs.reader.Reader.roll_end.Goals as goal

pub returns-in_err-expect-2-clause-value : goal.returns-in_err-expect-2-clause-value
returns-in_err-expect-2-clause-value c =
    λ o x own shown.
    finds_residual (AddsRoll o x c.args.self.now.nodes.items c.statement.new.self.nodes.items) (λ turns. roll_end (c.args.depth - 1) turns c.args.at o (place c.args.self.now.end c.args.self.now.cursor.rest.now) x) c.from_residual-in_err-expect-2.result c.in_err-expect-2.field-0.0 c.args.self.now.cursor.rest.now c.expect-then-next_is.new.cursor.rest.now c.from_residual-in_err-expect-2.ensures.1
    (end_open (c.args.depth - 1) c.args.self.now.end c.args.at c.args.first c.args.options o x c.args.self.now.cursor.rest.now c.args.self.now.nodes.items c.requires.place own shown c.in_ok-second.second c.expect.new.cursor.rest.now c.statement.new.self.cursor.rest.now c.expect-then-next_is.new.cursor.rest.now c.statement.new.self.nodes.items (sym (c.has_if.ensures c.args.self.now.nodes.items o own) ∙ c.if-has_if.true) c.in_ok-expect.ensures.value c.statement.ensures.shrinks c.in_ok-second.ensures.value (AddsRoll o x c.args.self.now.nodes.items c.statement.new.self.nodes.items) c.in_err-expect-2.field-0.0 c.in_err-expect-2.ensures.value)

pub returns-then-next_is-clause-value : goal.returns-then-next_is-clause-value
returns-then-next_is-clause-value c =
    λ o x own shown. end_some (c.args.depth - 1) c.args.self.now.end c.args.at c.args.first c.args.options o x c.args.self.now.cursor.rest.now c.args.self.now.nodes.items c.requires.place own shown c.in_ok-second.second c.expect.new.cursor.rest.now c.statement.new.self.cursor.rest.now c.expect-then-next_is.new.cursor.rest.now c.statement.new.self.nodes.items (sym (c.has_if.ensures c.args.self.now.nodes.items o own) ∙ c.if-has_if.true) c.in_ok-expect.ensures.value c.statement.ensures.shrinks c.in_ok-second.ensures.value c.in_ok-expect-2.ensures.value

pub returns-clause-value : goal.returns-clause-value
returns-clause-value c =
    λ o x own shown. end_none (c.args.depth - 1) c.args.self.now.end c.args.at c.args.first c.args.options o x c.args.self.now.cursor.rest.now c.args.self.now.nodes.items c.requires.place own shown c.expect-2.new.cursor.rest.now c.in_ok-expect-3.ensures.value
