-- All dice of a macro's pieces are within their limits.
use Rattle.std.specs.Prelude.{List, [], ◌∷◌, Some, None}
use Rattle.macro_grammar.specs.Tree.{Address, Receivers, Hidden, Master, Runner, Both, Whisper, Branch, If, Count, Options, Addressed, Branched, AddressFirst, BranchFirst, Piece, Plain, Roll, FirstOption, ForWhom, OnWhat}
use Rattle.macro_grammar.specs.Grammar.{DiceFit}

abbrev pub AddressFits : Address → Type 0
AddressFits (Receivers p) = Unit {0}
AddressFits (Hidden p) = Unit {0}
AddressFits (Master p) = Unit {0}
AddressFits (Runner p) = Unit {0}
AddressFits (Both p) = Unit {0}
AddressFits (Whisper p x) = DiceFit x

abbrev pub BranchFits : Branch → Type 0
BranchFits (If p x) = DiceFit x
BranchFits (Count p x) = DiceFit x

abbrev pub FirstFits : FirstOption → Type 0
FirstFits (ForWhom x) = AddressFits x
FirstFits (OnWhat y) = BranchFits y

abbrev pub OptionsFit : Options → Type 0
OptionsFit (Addressed x) = AddressFits x
OptionsFit (Branched y) = BranchFits y
OptionsFit (AddressFirst x y) = AddressFits x × BranchFits y
OptionsFit (BranchFirst y x) = BranchFits y × AddressFits x

abbrev pub PieceFits : Piece → Type 0
PieceFits (Plain p m) = Unit {0}
PieceFits (Roll p o x None) = OptionsFit o × DiceFit x
PieceFits (Roll p o x (Some y)) = OptionsFit o × DiceFit x × DiceFit y

abbrev pub PiecesFit : List Piece → Type 0
PiecesFit [] = Unit {0}
PiecesFit (p ∷ ps) = PieceFits p × PiecesFit ps
