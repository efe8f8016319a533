use Rattle.macro_parse.specs.declared.levels.Level.TheVariants.{Sum}
use Rattle.macro_grammar.specs.Readers.{unary_at}
use Rattle.macro_parse.specs.Levels.{more_of, compares_from}
use Rattle.macro_parse.proofs.Finding.{grows_then_grows}
use Rattle.macro_parse.proofs.reader.Reader.sums_from.Goals as goal

pub returns-clause-value : goal.returns-clause-value
returns-clause-value c =
    λ x shown.
    grows_then_grows (λ turns. λ at. more_of Sum (unary_at turns c.args.depth) turns at x) (λ turns. compares_from (unary_at turns c.args.depth) turns) c.args.self.now.end c.more.new.self.end c.in_ok-sum.sum c.compares_from.result c.args.self.now.cursor.rest.now c.more.new.self.cursor.rest.now c.compares_from.new.self.cursor.rest.now c.args.self.now.nodes.items c.more.new.self.nodes.items c.compares_from.new.self.nodes.items x
    c.requires c.more.ensures.shrinks c.more.ensures.end (c.in_ok-sum.ensures.value x shown) c.compares_from.ensures.value
