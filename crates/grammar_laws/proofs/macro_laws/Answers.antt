use Rattle.std.proofs.Common.{Ok, Err}
use Rattle.macro_parse.specs.declared.texts.MacroParseFault.TheVariants.{MacroSyntax, DiceLimit, Memory}
use Rattle.grammar_laws.proofs.MacroLaws.{macro_to, macro_from}
use Rattle.grammar_laws.proofs.macro_laws.Goals as goal

pub returns : goal.returns
returns c = record {
  spelled = λ text pieces. (macro_to text (Ok pieces), macro_from text (Ok pieces));
  off = λ text at. (macro_to text (Err (MacroSyntax at)), macro_from text (Err (MacroSyntax at)));
  limit = λ text. (macro_to text (Err DiceLimit), macro_from text (Err DiceLimit));
  memory = λ text. macro_to text (Err Memory);
}
