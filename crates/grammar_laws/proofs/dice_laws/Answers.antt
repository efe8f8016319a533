use Rattle.std.proofs.Common.{Ok, Err}
use Rattle.dice_parse.specs.declared.texts.DiceFault.TheVariants.{BadDice, DiceLimit, Memory}
use Rattle.grammar_laws.proofs.DiceLaws.{dice_to, dice_from}
use Rattle.grammar_laws.proofs.Written.{dice_to_writing, writing_to_dice}
use Rattle.grammar_laws.proofs.dice_laws.Goals as goal

pub returns : goal.returns
returns c = record {
  spelled = λ text terms. (dice_to text (Ok terms), dice_from text (Ok terms));
  off = λ text at. (dice_to text (Err (BadDice at)), dice_from text (Err (BadDice at)));
  limit = λ text. (dice_to text (Err DiceLimit), dice_from text (Err DiceLimit));
  memory = λ text. dice_to text (Err Memory);
  written = λ text terms. (dice_to_writing text terms, λ h. writing_to_dice text terms h.0 h.1);
}
