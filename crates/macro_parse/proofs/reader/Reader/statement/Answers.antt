use Rattle.std.proofs.Common.{◌-◌, arith}
use Rattle.macro_parse.specs.Flat.{Puts}
use Rattle.macro_parse.proofs.AfterNames.{statement_named, statement_other}
use Rattle.macro_parse.proofs.reader.Reader.statement.Goals as goal

pub returns-then-next_is_letter-clause-value : goal.returns-then-next_is_letter-clause-value
returns-then-next_is_letter-clause-value c =
    statement_named c.args.depth (c.args.depth - 1) c.args.self.now.end (omega (arith, c.requires.nests)) c.args.self.now.cursor.rest.now c.blanks.new.cursor.rest.now c.requires.place c.blanks.ensures.shrinks (Puts c.args.self.now.nodes.items c.named.new.self.nodes.items) c.named.result c.named.new.self.cursor.rest.now c.blanks.ensures.value c.if-next_is_letter.ensures c.named.ensures.value

pub returns-clause-value : goal.returns-clause-value
returns-clause-value c =
    statement_other c.args.depth (c.args.depth - 1) c.args.self.now.end (omega (arith, c.requires.nests)) c.args.self.now.cursor.rest.now c.blanks.new.cursor.rest.now c.requires.place c.blanks.ensures.shrinks (Puts c.args.self.now.nodes.items c.chain.new.self.nodes.items) c.chain.result c.chain.new.self.cursor.rest.now c.blanks.ensures.value c.if-next_is_letter.ensures c.chain.ensures.value
