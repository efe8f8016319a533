use Rattle.macro_parse.proofs.AfterNames.{equal_found}
use Rattle.macro_parse.proofs.reader.Reader.equal_from.Goals as goal

pub returns-clause-value : goal.returns-clause-value
returns-clause-value c =
    λ x shown.
    equal_found c.args.depth c.args.self.now.end c.chain.new.self.end c.args.at c.in_ok-whole.whole c.args.left c.in_ok-right.right c.ands_from.result c.args.self.now.cursor.rest.now c.chain.new.self.cursor.rest.now c.ands_from.new.self.cursor.rest.now c.args.self.now.nodes.items c.chain.new.self.nodes.items c.keep.new.nodes.items c.ands_from.new.self.nodes.items x
    c.requires c.chain.ensures.shrinks c.chain.ensures.end shown c.in_ok-right.ensures.value c.in_ok-whole.ensures.kept c.ands_from.ensures.value
