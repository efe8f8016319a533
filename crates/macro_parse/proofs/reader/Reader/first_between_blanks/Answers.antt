use Rattle.std.proofs.Common.{◌-◌}
use Rattle.macro_grammar.specs.Readers.{first_word_at}
use Rattle.macro_grammar.specs.Limits.{FirstFits}
use Rattle.macro_parse.specs.FlatPieces.{ShowsFirst, Adds}
use Rattle.macro_parse.proofs.RollsFound.{between_found}
use Rattle.macro_parse.proofs.reader.Reader.first_between_blanks.Goals as goal

pub returns-clause-value : goal.returns-clause-value
returns-clause-value c =
    between_found (Adds ShowsFirst FirstFits c.args.self.now.nodes.items c.first.new.self.nodes.items) (λ turns. first_word_at (c.args.depth - 1) turns) c.args.self.now.end c.args.self.now.cursor.rest.now c.blanks.new.cursor.rest.now c.first.new.self.cursor.rest.now c.requires.place c.blanks.ensures.shrinks c.blanks.ensures.value c.in_ok-word.word c.blanks-2.new.cursor.rest.now c.blanks-2.ensures.value c.in_ok-word.ensures.value
