use Rattle.macro_grammar.specs.Readers.{unary_at, sum_at, compared_with}
use Rattle.macro_parse.specs.Flat.{Grows, place}
use Rattle.macro_parse.specs.Levels.{ands_from, compares_from}
use Rattle.macro_parse.proofs.Finding.{grows_then_grows, stops_then, finds_residual}
use Rattle.macro_parse.proofs.reader.Reader.compares_from.Goals as goal

pub returns-clause-value : goal.returns-clause-value
returns-clause-value c =
    λ x shown.
    grows_then_grows (λ turns. λ at. compared_with (sum_at (unary_at turns c.args.depth) turns) turns at x) (λ turns. ands_from (unary_at turns c.args.depth) turns) c.args.self.now.end c.compared_with.new.self.end c.in_ok-compared.compared c.ands_from.result c.args.self.now.cursor.rest.now c.compared_with.new.self.cursor.rest.now c.ands_from.new.self.cursor.rest.now c.args.self.now.nodes.items c.compared_with.new.self.nodes.items c.ands_from.new.self.nodes.items x
    c.requires c.compared_with.ensures.shrinks c.compared_with.ensures.end (c.in_ok-compared.ensures.value x shown) c.ands_from.ensures.value

pub returns-in_err-compared-clause-value : goal.returns-in_err-compared-clause-value
returns-in_err-compared-clause-value c =
    λ x shown.
    finds_residual (Grows x c.args.self.now.nodes.items c.compared_with.new.self.nodes.items) (λ turns. compares_from (unary_at turns c.args.depth) turns (place c.args.self.now.end c.args.self.now.cursor.rest.now) x) c.from_residual.result c.in_err-compared.field-0.0 c.args.self.now.cursor.rest.now c.compared_with.new.self.cursor.rest.now c.from_residual.ensures.1
    (stops_then (Grows x c.args.self.now.nodes.items c.compared_with.new.self.nodes.items) (Grows x c.args.self.now.nodes.items c.compared_with.new.self.nodes.items) (λ turns at. compared_with (sum_at (unary_at turns c.args.depth) turns) turns at x) (λ turns. ands_from (unary_at turns c.args.depth) turns) (place c.args.self.now.end c.args.self.now.cursor.rest.now) c.in_err-compared.field-0.0 c.args.self.now.cursor.rest.now c.compared_with.new.self.cursor.rest.now (c.in_err-compared.ensures.value x shown))
