-- What a macro's text comes to, as one answer: its pieces, or its fault.
use Rattle.std.specs.Prelude.{◌≡◌, ℕ, suc, ◌-◌, ◌&&◌, Bool, true, if◌then◌else◌, List, length, Option, Some, None, Result, Ok, Err}
use Rattle.std.specs.List.{list_all}
use Rattle.dice_parse.specs.declared.parts.Part.TheVariants.{Group as AGroup}
use Rattle.dice_parse.specs.Answers.{part_fits}
use Rattle.macro_grammar.specs.Tree.{Tree, Number, Dice, Quoted, Name, Call0, Call1, Call2, Call3, Negated, Inverted, Binary, Assigned, Address, Receivers, Hidden, Master, Runner, Both, Whisper, Branch, If, Count, Options, Addressed, Branched, AddressFirst, BranchFirst, Piece, Plain, Roll}
use Rattle.macro_grammar.specs.Readers.{macro_at}
use Rattle.macro_parse.specs.declared.texts.MacroParseFault.{MacroParseFault}
use Rattle.macro_parse.specs.declared.texts.MacroParseFault.TheVariants.{MacroSyntax, DiceLimit, Memory}

-- ---- the test of the limits of all dice

abbrev pub tree_fits : Tree → Bool
tree_fits (Number at n) = true
tree_fits (Dice at g) = part_fits (AGroup g)
tree_fits (Quoted at m) = true
tree_fits (Name at name) = true
tree_fits (Call0 at f) = true
tree_fits (Call1 at f x) = tree_fits x
tree_fits (Call2 at f x y) = tree_fits x && tree_fits y
tree_fits (Call3 at f x y z) = tree_fits x && (tree_fits y && tree_fits z)
tree_fits (Negated at x) = tree_fits x
tree_fits (Inverted at x) = tree_fits x
tree_fits (Binary at o x y) = tree_fits x && tree_fits y
tree_fits (Assigned at name x) = tree_fits x

abbrev pub address_fits : Address → Bool
address_fits (Receivers at) = true
address_fits (Hidden at) = true
address_fits (Master at) = true
address_fits (Runner at) = true
address_fits (Both at) = true
address_fits (Whisper at x) = tree_fits x

abbrev pub branch_fits : Branch → Bool
branch_fits (If at x) = tree_fits x
branch_fits (Count at x) = tree_fits x

abbrev pub options_fit : Options → Bool
options_fit (Addressed a) = address_fits a
options_fit (Branched b) = branch_fits b
options_fit (AddressFirst a b) = address_fits a && branch_fits b
options_fit (BranchFirst b a) = branch_fits b && address_fits a

abbrev pub piece_fits : Piece → Bool
piece_fits (Plain at m) = true
piece_fits (Roll at o x None) = options_fit o && tree_fits x
piece_fits (Roll at o x (Some y)) = options_fit o && (tree_fits x && tree_fits y)

abbrev pub are_within : List Piece → Bool
are_within pieces = list_all piece_fits pieces

-- ---- the answer

-- by what was read of the text, and what was left of it
abbrev pub answer_by : List ℕ → Option (List Piece) × List ℕ → Result (List Piece) MacroParseFault
answer_by text (None, rest) = Err (MacroSyntax (length text - length rest))
answer_by text (Some pieces, rest) = if are_within pieces then Ok pieces else Err DiceLimit

-- the pieces that the text spells, in which 32 may nest (31 in the first one), or its fault
unfoldable pub macro_of : List ℕ → Result (List Piece) MacroParseFault
macro_of text = answer_by text (macro_at 31 (suc (length text)) text)

-- the fault is that of the answer, unless memory ran out
abbrev pub IsFaultIn : Result (List Piece) MacroParseFault → MacroParseFault → Type 0
IsFaultIn answer (MacroSyntax at) = answer ≡ Err (MacroSyntax at)
IsFaultIn answer DiceLimit = answer ≡ Err DiceLimit
IsFaultIn answer Memory = Unit {0}
