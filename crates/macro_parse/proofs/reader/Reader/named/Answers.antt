use Rattle.std.proofs.Common.{◌∙◌}
use Rattle.macro_parse.specs.Flat.{Puts, PutsCall, place}
use Rattle.macro_parse.specs.Levels.{named_at}
use Rattle.macro_parse.proofs.Finding.{finds_residual}
use Rattle.macro_parse.proofs.AfterNames.{named_stops, named_alone, named_call_stops, named_call}
use Rattle.macro_parse.proofs.reader.Reader.named.Goals as goal

pub returns-in_err-name-clause-value : goal.returns-in_err-name-clause-value
returns-in_err-name-clause-value c =
    finds_residual (Puts c.args.self.now.nodes.items c.name.new.self.nodes.items) (λ turns. named_at c.args.depth turns (place c.args.self.now.end c.args.self.now.cursor.rest.now)) c.from_residual.result c.in_err-name.field-0.0 c.args.self.now.cursor.rest.now c.name.new.self.cursor.rest.now c.from_residual.ensures.1
    (named_stops c.args.depth c.args.self.now.end c.args.self.now.cursor.rest.now c.name.new.self.cursor.rest.now c.requires (Puts c.args.self.now.nodes.items c.name.new.self.nodes.items) c.in_err-name.field-0.0 c.in_err-name.ensures.value)

pub returns-in_default-clause-value : goal.returns-in_default-clause-value
returns-in_default-clause-value c =
    let g = rw (c.name.ensures.nodes, c.name.ensures.end) at c.after_name.ensures.value in
    let none = rw c.as_slice.ensures.value at c.in_default.ensures in
    named_alone c.args.depth c.args.self.now.end c.args.self.now.cursor.rest.now c.name.new.self.cursor.rest.now c.requires (Puts c.args.self.now.nodes.items c.after_name.new.self.nodes.items) c.at-at.result c.in_ok-name.name c.after_name.result c.blanks.new.cursor.rest.now c.after_name.new.self.cursor.rest.now c.name.ensures.shrinks c.blanks.ensures.shrinks c.at-at.ensures c.in_ok-name.ensures.value none c.blanks.ensures.value g

pub returns-in_err-call-clause-value : goal.returns-in_err-call-clause-value
returns-in_err-call-clause-value c =
    let some = rw c.as_slice.ensures.value at c.in-Some.ensures in
    finds_residual (Puts c.args.self.now.nodes.items c.arguments.new.self.nodes.items) (λ turns. named_at c.args.depth turns (place c.args.self.now.end c.args.self.now.cursor.rest.now)) c.from_residual-in_err-call.result c.in_err-call.field-0.0 c.args.self.now.cursor.rest.now c.arguments.new.self.cursor.rest.now c.from_residual-in_err-call.ensures.1
    (named_call_stops c.args.depth c.args.self.now.end c.args.self.now.cursor.rest.now c.name.new.self.cursor.rest.now c.requires (PutsCall c.name.new.self.nodes.items c.arguments.new.self.nodes.items) (Puts c.args.self.now.nodes.items c.arguments.new.self.nodes.items) c.at-at.result c.name.new.self.end c.in_ok-name.name c.in-Some.function c.in_err-call.field-0.0 c.arguments.new.self.cursor.rest.now c.name.ensures.shrinks c.at-at.ensures c.name.ensures.end c.in_ok-name.ensures.value some
    (λ i t p. let q = rw c.name.ensures.nodes at p.puts in q) c.in_err-call.ensures.value)

pub returns-clause-value : goal.returns-clause-value
returns-clause-value c =
    let some = rw c.as_slice.ensures.value at c.in-Some.ensures in
    let g = rw (c.name.ensures.nodes, c.name.ensures.end, c.at-at.ensures) at c.in_ok-call.ensures.value in
    let more = rw (c.arguments.ensures.end ∙ c.name.ensures.end) at c.products_from.ensures.value in
    named_call c.args.depth c.args.self.now.end c.args.self.now.cursor.rest.now c.name.new.self.cursor.rest.now c.requires c.at-at.result c.in_ok-name.name c.in-Some.function c.in_ok-call.call c.products_from.result c.arguments.new.self.cursor.rest.now c.blanks-2.new.cursor.rest.now c.products_from.new.self.cursor.rest.now c.args.self.now.nodes.items c.arguments.new.self.nodes.items c.products_from.new.self.nodes.items
    c.name.ensures.shrinks c.arguments.ensures.shrinks c.blanks-2.ensures.shrinks c.in_ok-name.ensures.value some g c.blanks-2.ensures.value more
