use Rattle.macro_grammar.specs.Readers.{unary_at, after_name}
use Rattle.macro_parse.specs.Flat.{Puts, place}
use Rattle.macro_parse.proofs.Finding.{finds_residual}
use Rattle.macro_parse.proofs.AfterNames.{after_none, after_equal, value_stops, value_found}
use Rattle.macro_parse.proofs.reader.Reader.after_name.Goals as goal

pub returns-then-not-takes-clause-value : goal.returns-then-not-takes-clause-value
returns-then-not-takes-clause-value c =
    after_none c.args.depth c.args.self.now.end c.args.at c.args.name c.args.self.now.cursor.rest.now c.requires c.in_ok-first.first c.products_from.result c.takes.new.self.rest.now c.products_from.new.self.cursor.rest.now c.args.self.now.nodes.items c.keep.new.nodes.items c.products_from.new.self.nodes.items c.if-not-takes.ensures.value c.in_ok-first.ensures.kept c.products_from.ensures.value

pub returns-then-takes-clause-value : goal.returns-then-takes-clause-value
returns-then-takes-clause-value c =
    after_equal c.args.depth c.args.self.now.end c.args.at c.args.name c.args.self.now.cursor.rest.now c.requires c.in_ok-left.left c.at-equals.result c.equal_from.result c.takes.new.self.rest.now c.takes-2.new.self.rest.now c.equal_from.new.self.cursor.rest.now c.args.self.now.nodes.items c.keep-then-takes.new.nodes.items c.equal_from.new.self.nodes.items c.if-not-takes.ensures.value c.if-takes.ensures.value c.at-equals.ensures c.in_ok-left.ensures.kept c.equal_from.ensures.value

pub returns-in_err-value-clause-value : goal.returns-in_err-value-clause-value
returns-in_err-value-clause-value c =
    finds_residual (Puts c.args.self.now.nodes.items c.chain.new.self.nodes.items) (λ turns. after_name (unary_at turns c.args.depth) turns c.args.at c.args.name.items (place c.args.self.now.end c.args.self.now.cursor.rest.now)) c.from_residual-in_err-value.result c.in_err-value.field-0.0 c.args.self.now.cursor.rest.now c.chain.new.self.cursor.rest.now c.from_residual-in_err-value.ensures.1
    (value_stops c.args.depth c.args.self.now.end c.args.at c.args.name c.args.self.now.cursor.rest.now c.requires c.takes.new.self.rest.now c.takes-2.new.self.rest.now c.if-not-takes.ensures.value c.if-takes.ensures.value (Puts c.args.self.now.nodes.items c.chain.new.self.nodes.items) c.in_err-value.field-0.0 c.chain.new.self.cursor.rest.now c.args.self.now.nodes.items c.chain.new.self.nodes.items c.in_err-value.ensures.value)

pub returns-clause-value : goal.returns-clause-value
returns-clause-value c =
    value_found c.args.depth c.args.self.now.end c.args.at c.args.name c.args.self.now.cursor.rest.now c.requires c.takes.new.self.rest.now c.takes-2.new.self.rest.now c.if-not-takes.ensures.value c.if-takes.ensures.value c.in_ok-value.value c.keep-2.result c.chain.new.self.cursor.rest.now c.args.self.now.nodes.items c.chain.new.self.nodes.items c.keep-2.new.nodes.items c.in_ok-value.ensures.value c.keep-2.ensures.kept c.keep-2.ensures.memory
