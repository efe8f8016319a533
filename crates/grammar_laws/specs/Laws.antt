-- What `dice_of` and `macro_of` answer of a text, in the words of the grammars: no reader, and no number of its turns.
use Rattle.std.specs.Prelude.{◌≡◌, ◌↔◌, ℕ, List, Ok, Err}
use Rattle.dice_parse.specs.declared.parts.Term.{Term}
use Rattle.dice_parse.specs.declared.texts.DiceFault.TheVariants.{BadDice, DiceLimit, Memory}
use Rattle.dice_parse.specs.Grammar.{IsDice, IsWithin}
use Rattle.dice_parse.specs.Faults.{IsFaultOf}
use Rattle.dice_parse.specs.Answers.{dice_of}
use Rattle.grammar_laws.specs.Written.{CanBeWritten, IsWriting}
use Rattle.macro_grammar.specs.Tree.{Piece}
use Rattle.macro_grammar.specs.Grammar.{IsMacro}
use Rattle.macro_grammar.specs.Limits.{PiecesFit}
use Rattle.macro_parse.specs.declared.texts.MacroParseFault.TheVariants.{MacroSyntax, DiceLimit as MacroDiceLimit, Memory as MacroMemory}
use Rattle.macro_parse.specs.Faults.{IsFaultOf as IsMacroFaultOf}
use Rattle.macro_parse.specs.Answers.{macro_of}

-- ---- dice

-- the answer is some terms exactly where the text spells them and they are within the limits
abbrev pub DiceAreTheSpelled : Type 0
DiceAreTheSpelled = (text : List ℕ) (terms : List Term) → dice_of text ≡ Ok terms ↔ (IsDice text terms × IsWithin terms)

-- it is this fault at a place exactly where the text spells none, and its longest front that begins some dice ends there
abbrev pub BadDiceAreOffTheGrammar : Type 0
BadDiceAreOffTheGrammar = (text : List ℕ) (at : ℕ) → dice_of text ≡ Err (BadDice at) ↔ IsFaultOf text (BadDice at)

-- it is this fault exactly where the text spells terms that are off the limits
abbrev pub LimitedDiceAreOffTheLimits : Type 0
LimitedDiceAreOffTheLimits = (text : List ℕ) → dice_of text ≡ Err DiceLimit ↔ IsFaultOf text DiceLimit

abbrev pub DiceWantNoMemory : Type 0
DiceWantNoMemory = (text : List ℕ) → dice_of text ≡ Err Memory → ⊥

-- of the grammar itself: a text spells exactly the terms of which it is a writing
abbrev pub DiceAreTheWritten : Type 0
DiceAreTheWritten = (text : List ℕ) (terms : List Term) → IsDice text terms ↔ (CanBeWritten terms × IsWriting text terms)

-- ---- macros

-- the answer is some pieces exactly where the text spells them (32 deep at most, with places from 0) and all their dice are within the limits
abbrev pub MacrosAreTheSpelled : Type 0
MacrosAreTheSpelled = (text : List ℕ) (pieces : List Piece) → macro_of text ≡ Ok pieces ↔ (IsMacro 32 0 text pieces × PiecesFit pieces)

-- it is this fault at a place exactly where the text spells none, and its longest front that begins some macro ends there
abbrev pub BadMacrosAreOffTheGrammar : Type 0
BadMacrosAreOffTheGrammar = (text : List ℕ) (at : ℕ) → macro_of text ≡ Err (MacroSyntax at) ↔ IsMacroFaultOf text (MacroSyntax at)

-- it is this fault exactly where the text spells pieces with dice off their limits
abbrev pub LimitedMacrosAreOffTheLimits : Type 0
LimitedMacrosAreOffTheLimits = (text : List ℕ) → macro_of text ≡ Err MacroDiceLimit ↔ IsMacroFaultOf text MacroDiceLimit

abbrev pub MacrosWantNoMemory : Type 0
MacrosWantNoMemory = (text : List ℕ) → macro_of text ≡ Err MacroMemory → ⊥
