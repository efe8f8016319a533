use Rattle.std.proofs.Common.{◌-◌}
use Rattle.macro_grammar.specs.Readers.{address_word_at}
use Rattle.macro_grammar.specs.Limits.{AddressFits}
use Rattle.macro_parse.specs.FlatPieces.{ShowsAddress, Adds}
use Rattle.macro_parse.proofs.RollsFound.{between_found}
use Rattle.macro_parse.proofs.reader.Reader.address_between_blanks.Goals as goal

pub returns-clause-value : goal.returns-clause-value
returns-clause-value c =
    between_found (Adds ShowsAddress AddressFits c.args.self.now.nodes.items c.address.new.self.nodes.items) (λ turns. address_word_at (c.args.depth - 1) turns) c.args.self.now.end c.args.self.now.cursor.rest.now c.blanks.new.cursor.rest.now c.address.new.self.cursor.rest.now c.requires.place c.blanks.ensures.shrinks c.blanks.ensures.value c.in_ok-word.word c.blanks-2.new.cursor.rest.now c.blanks-2.ensures.value c.in_ok-word.ensures.value
