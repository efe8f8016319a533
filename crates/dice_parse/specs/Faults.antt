-- Which fault a text has: off the grammar, with the length of its longest viable front; or of the grammar and off the limits.
use Rattle.std.specs.Prelude.{ℕ, List}
use Rattle.dice_parse.specs.declared.parts.Term.{Term}
use Rattle.dice_parse.specs.declared.texts.DiceFault.{DiceFault}
use Rattle.dice_parse.specs.declared.texts.DiceFault.TheVariants.{BadDice, DiceLimit, Memory}
use Rattle.reading.specs.Reading.{IsLongest}
use Rattle.dice_parse.specs.Grammar.{IsDice, IsWithin}

abbrev pub IsFaultOf : List ℕ → DiceFault → Type 0
IsFaultOf text (BadDice at) = ((terms : List Term) → IsDice text terms → ⊥) × IsLongest IsDice text at
IsFaultOf text DiceLimit = (terms : List Term) × IsDice text terms × (IsWithin terms → ⊥)
IsFaultOf text Memory = Unit {0}
