use Rattle.macro_grammar.proofs.WholeMacros.{one_macro}
use Rattle.macro_grammar.proofs.laws.one_reading.Goals as goal

pub returns : goal.returns
returns c = one_macro 31
