-- The tree and the pieces that flat nodes stand for, as functions of the nodes.
use Rattle.std.specs.Prelude.{ℕ, zero, suc, All, List, [], ◌∷◌, map, Option, Some, None, slice_get}
use Rattle.macro_parse.specs.declared.nodes.Node.{Node}
use Rattle.macro_parse.specs.declared.nodes.Node.TheVariants.{Number as NumberNode, Dice as DiceNode, Quoted as QuotedNode, Name as NameNode, Call as CallNode, Negated as NegatedNode, Inverted as InvertedNode, Binary as BinaryNode, Assigned as AssignedNode}
use Rattle.macro_parse.specs.declared.nodes.Arguments.TheVariants.{Nothing, One, Two, Three}
use Rattle.macro_parse.specs.declared.nodes.Address.{Address as FlatAddress}
use Rattle.macro_parse.specs.declared.nodes.Address.TheVariants.{Receivers as FlatReceivers, Hidden as FlatHidden, Master as FlatMaster, Runner as FlatRunner, Both as FlatBoth, Whisper as FlatWhisper}
use Rattle.macro_parse.specs.declared.nodes.Branch.{Branch as FlatBranch}
use Rattle.macro_parse.specs.declared.nodes.Branch.TheVariants.{If as FlatIf, Count as FlatCount}
use Rattle.macro_parse.specs.declared.nodes.Options.{Options as FlatOptions}
use Rattle.macro_parse.specs.declared.nodes.Options.TheVariants.{Addressed as FlatAddressed, Branched as FlatBranched, AddressFirst as FlatAddressFirst, BranchFirst as FlatBranchFirst}
use Rattle.macro_parse.specs.declared.nodes.Piece.{Piece as FlatPiece}
use Rattle.macro_parse.specs.declared.nodes.Piece.TheVariants.{Plain as FlatPlain, Roll as FlatRoll}
use Rattle.macro_grammar.specs.Tree.{Tree, Number, Dice, Quoted, Name, Call0, Call1, Call2, Call3, Negated, Inverted, Binary, Assigned, Address, Receivers, Hidden, Master, Runner, Both, Whisper, Branch, If, Count, Options, Addressed, Branched, AddressFirst, BranchFirst, Piece, Plain, Roll}
use Rattle.macro_parse.specs.Flat.{Shows, NodesFit}

-- the tree of a node, given those of its parts
abbrev pub tree_with : (ℕ → Tree) → Node → Tree
tree_with part (NumberNode at n) = Number at n
tree_with part (DiceNode at g) = Dice at g
tree_with part (QuotedNode at m) = Quoted at m
tree_with part (NameNode at v) = Name at v.items
tree_with part (CallNode at f Nothing) = Call0 at f
tree_with part (CallNode at f (One j)) = Call1 at f (part j)
tree_with part (CallNode at f (Two j k)) = Call2 at f (part j) (part k)
tree_with part (CallNode at f (Three j k l)) = Call3 at f (part j) (part k) (part l)
tree_with part (NegatedNode at j) = Negated at (part j)
tree_with part (InvertedNode at j) = Inverted at (part j)
tree_with part (BinaryNode at o j k) = Binary at o (part j) (part k)
tree_with part (AssignedNode at v j) = Assigned at v.items (part j)

abbrev pub tree_or_none : (ℕ → Tree) → Option Node → Tree
tree_or_none part None = Number 0 0
tree_or_none part (Some node) = tree_with part node

-- the tree of the node at i, where so many nodes may stand below one another
unfoldable pub tree_within : ℕ → List Node → ℕ → Tree
tree_within zero nodes i = Number 0 0
tree_within (suc depth) nodes i = tree_or_none (tree_within depth nodes) (slice_get nodes i)

-- a node's parts stand before it, so no more than i stand below the one at i
abbrev pub tree_at : List Node → ℕ → Tree
tree_at nodes i = tree_within (suc i) nodes i

-- the node at i is there, and so are all its parts, each before what it is a part of
abbrev pub Stands : List Node → ℕ → Type 0
Stands nodes i = Shows nodes i (tree_at nodes i)

-- ---- options and pieces

abbrev pub address_at : List Node → FlatAddress → Address
address_at nodes (FlatReceivers at) = Receivers at
address_at nodes (FlatHidden at) = Hidden at
address_at nodes (FlatMaster at) = Master at
address_at nodes (FlatRunner at) = Runner at
address_at nodes (FlatBoth at) = Both at
address_at nodes (FlatWhisper at j) = Whisper at (tree_at nodes j)

abbrev pub branch_at : List Node → FlatBranch → Branch
branch_at nodes (FlatIf at j) = If at (tree_at nodes j)
branch_at nodes (FlatCount at j) = Count at (tree_at nodes j)

abbrev pub options_at : List Node → FlatOptions → Options
options_at nodes (FlatAddressed a) = Addressed (address_at nodes a)
options_at nodes (FlatBranched b) = Branched (branch_at nodes b)
options_at nodes (FlatAddressFirst a b) = AddressFirst (address_at nodes a) (branch_at nodes b)
options_at nodes (FlatBranchFirst b a) = BranchFirst (branch_at nodes b) (address_at nodes a)

abbrev pub second_at : List Node → Option ℕ → Option Tree
second_at nodes None = None
second_at nodes (Some j) = Some (tree_at nodes j)

abbrev pub piece_at : List Node → FlatPiece → Piece
piece_at nodes (FlatPlain at m) = Plain at m
piece_at nodes (FlatRoll at o j second) = Roll at (options_at nodes o) (tree_at nodes j) (second_at nodes second)

-- the pieces that flat pieces stand for
abbrev pub pieces_at : List Node → List FlatPiece → List Piece
pieces_at nodes ps = map (piece_at nodes) ps

-- all nodes that they name stand
abbrev pub AddressStands : List Node → FlatAddress → Type 0
AddressStands nodes (FlatReceivers at) = Unit {0}
AddressStands nodes (FlatHidden at) = Unit {0}
AddressStands nodes (FlatMaster at) = Unit {0}
AddressStands nodes (FlatRunner at) = Unit {0}
AddressStands nodes (FlatBoth at) = Unit {0}
AddressStands nodes (FlatWhisper at j) = Stands nodes j

abbrev pub BranchStands : List Node → FlatBranch → Type 0
BranchStands nodes (FlatIf at j) = Stands nodes j
BranchStands nodes (FlatCount at j) = Stands nodes j

abbrev pub OptionsStand : List Node → FlatOptions → Type 0
OptionsStand nodes (FlatAddressed a) = AddressStands nodes a
OptionsStand nodes (FlatBranched b) = BranchStands nodes b
OptionsStand nodes (FlatAddressFirst a b) = AddressStands nodes a × BranchStands nodes b
OptionsStand nodes (FlatBranchFirst b a) = BranchStands nodes b × AddressStands nodes a

abbrev pub SecondStands : List Node → Option ℕ → Type 0
SecondStands nodes None = Unit {0}
SecondStands nodes (Some j) = Stands nodes j

abbrev pub PieceStands : List Node → FlatPiece → Type 0
PieceStands nodes (FlatPlain at m) = Unit {0}
PieceStands nodes (FlatRoll at o j second) = OptionsStand nodes o × Stands nodes j × SecondStands nodes second

-- all nodes that flat pieces name stand, and no dice are off the limits
pub record MacroStands (nodes : List Node) (pieces : List FlatPiece) : Type 0 where
  pub each : All (PieceStands nodes) pieces
  pub fits : NodesFit nodes

-- what was read of a macro text: flat pieces over nodes
pub record FlatMacro : Type 0 where
  pub nodes : List Node
  pub pieces : List FlatPiece

-- the pieces that it stands for
abbrev pub pieces_of : FlatMacro → List Piece
pieces_of m = pieces_at m.nodes m.pieces
