-- Options and pieces as they stand over a list of nodes.
use Rattle.std.specs.Prelude.{◌≡◌, ℕ, List, [], ◌∷◌, Some, None}
use Rattle.macro_parse.specs.declared.nodes.Node.{Node}
use Rattle.macro_parse.specs.declared.nodes.Address.{Address as FlatAddress}
use Rattle.macro_parse.specs.declared.nodes.Address.TheVariants.{Receivers as FlatReceivers, Hidden as FlatHidden, Master as FlatMaster, Runner as FlatRunner, Both as FlatBoth, Whisper as FlatWhisper}
use Rattle.macro_parse.specs.declared.nodes.Branch.{Branch as FlatBranch}
use Rattle.macro_parse.specs.declared.nodes.Branch.TheVariants.{If as FlatIf, Count as FlatCount}
use Rattle.macro_parse.specs.declared.nodes.Options.{Options as FlatOptions}
use Rattle.macro_parse.specs.declared.nodes.Options.TheVariants.{Addressed as FlatAddressed, Branched as FlatBranched, AddressFirst as FlatAddressFirst, BranchFirst as FlatBranchFirst}
use Rattle.macro_parse.specs.declared.nodes.Piece.{Piece as FlatPiece}
use Rattle.macro_parse.specs.declared.nodes.Piece.TheVariants.{Plain as FlatPlain, Roll as FlatRoll}
use Rattle.macro_parse.specs.declared.rolls.First.{First}
use Rattle.macro_parse.specs.declared.rolls.First.TheVariants.{ForWhom as FirstForWhom, OnWhat as FirstOnWhat}
use Rattle.macro_grammar.specs.Tree.{Tree, Address, Receivers, Hidden, Master, Runner, Both, Whisper, Branch, If, Count, Options, Addressed, Branched, AddressFirst, BranchFirst, Piece, Plain, Roll, FirstOption, ForWhom, OnWhat}
use Rattle.macro_grammar.specs.Grammar.{DiceFit}
use Rattle.macro_grammar.specs.Limits.{OptionsFit, PieceFits, PiecesFit}
use Rattle.macro_parse.specs.Flat.{Shows, Keeps, NodesFit}

abbrev pub ShowsAddress : List Node → FlatAddress → Address → Type 0
ShowsAddress nodes a (Receivers at) = a ≡ FlatReceivers at
ShowsAddress nodes a (Hidden at) = a ≡ FlatHidden at
ShowsAddress nodes a (Master at) = a ≡ FlatMaster at
ShowsAddress nodes a (Runner at) = a ≡ FlatRunner at
ShowsAddress nodes a (Both at) = a ≡ FlatBoth at
ShowsAddress nodes a (Whisper at x) = (j : ℕ) × (a ≡ FlatWhisper at j) × Shows nodes j x

abbrev pub ShowsBranch : List Node → FlatBranch → Branch → Type 0
ShowsBranch nodes b (If at x) = (j : ℕ) × (b ≡ FlatIf at j) × Shows nodes j x
ShowsBranch nodes b (Count at x) = (j : ℕ) × (b ≡ FlatCount at j) × Shows nodes j x

abbrev pub ShowsFirst : List Node → First → FirstOption → Type 0
ShowsFirst nodes f (ForWhom x) = (a : FlatAddress) × (f ≡ FirstForWhom a) × ShowsAddress nodes a x
ShowsFirst nodes f (OnWhat y) = (b : FlatBranch) × (f ≡ FirstOnWhat b) × ShowsBranch nodes b y

abbrev pub ShowsOptions : List Node → FlatOptions → Options → Type 0
ShowsOptions nodes o (Addressed x) = (a : FlatAddress) × (o ≡ FlatAddressed a) × ShowsAddress nodes a x
ShowsOptions nodes o (Branched y) = (b : FlatBranch) × (o ≡ FlatBranched b) × ShowsBranch nodes b y
ShowsOptions nodes o (AddressFirst x y) = (a : FlatAddress) × (b : FlatBranch) × (o ≡ FlatAddressFirst a b) × ShowsAddress nodes a x × ShowsBranch nodes b y
ShowsOptions nodes o (BranchFirst y x) = (b : FlatBranch) × (a : FlatAddress) × (o ≡ FlatBranchFirst b a) × ShowsBranch nodes b y × ShowsAddress nodes a x

abbrev pub ShowsPiece : List Node → FlatPiece → Piece → Type 0
ShowsPiece nodes p (Plain at m) = p ≡ FlatPlain at m
ShowsPiece nodes p (Roll at o x None) = (q : FlatOptions) × (j : ℕ) × (p ≡ FlatRoll at q j None) × ShowsOptions nodes q o × Shows nodes j x
ShowsPiece nodes p (Roll at o x (Some y)) = (q : FlatOptions) × (j : ℕ) × (k : ℕ) × (p ≡ FlatRoll at q j (Some k)) × ShowsOptions nodes q o × Shows nodes j x × Shows nodes k y

abbrev pub ShowsPieces : List Node → List FlatPiece → List Piece → Type 0
ShowsPieces nodes [] [] = Unit {0}
ShowsPieces nodes [] (t ∷ ts) = ⊥
ShowsPieces nodes (p ∷ ps) [] = ⊥
ShowsPieces nodes (p ∷ ps) (t ∷ ts) = ShowsPiece nodes p t × ShowsPieces nodes ps ts

-- the nodes and pieces stand for some pieces, whose dice are within their limits
abbrev pub StandForPieces : List Node → List FlatPiece → Type 0
StandForPieces nodes ps = (ts : List Piece) × ShowsPieces nodes ps ts × PiecesFit ts

-- nodes were put behind the old ones, so that v stands for t; no dice came but t's
pub record Adds {V T : Type 0} (Shown : List Node → V → T → Type 0) (Fits : T → Type 0) (old new : List Node) (v : V) (t : T) : Type 0 where
  pub shows : Shown new v t
  pub keeps : Keeps old new
  pub fits : NodesFit old → Fits t → NodesFit new

-- the same for a roll whose options and first statement stood in the old nodes
pub record AddsRoll (o : Options) (x : Tree) (old new : List Node) (p : FlatPiece) (t : Piece) : Type 0 where
  pub adds : Adds ShowsPiece PieceFits old new p t
  pub parts : PieceFits t → OptionsFit o × DiceFit x
