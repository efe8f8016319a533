-- Trees as they stand in a list of nodes.
use Rattle.std.specs.Prelude.{◌≡◌, ℕ, ◌<◌, ◌-◌, List, [], ◌∷◌, ◌++◌, length, Some, None, Result, Ok, Err, All, slice_get}
use Rattle.std.specs.Global.{Vec}
use Rattle.reading.specs.Reading.{Read}
use Rattle.dice_parse.specs.Grammar.{GroupFits}
use Rattle.macro_parse.specs.declared.nodes.Node.{Node}
use Rattle.macro_parse.specs.declared.nodes.Node.TheVariants.{Number as NumberNode, Dice as DiceNode, Quoted as QuotedNode, Name as NameNode, Call as CallNode, Negated as NegatedNode, Inverted as InvertedNode, Binary as BinaryNode, Assigned as AssignedNode}
use Rattle.macro_parse.specs.declared.nodes.Arguments.TheVariants.{Nothing, One, Two, Three}
use Rattle.macro_parse.specs.declared.reader.Stop.{Stop}
use Rattle.macro_parse.specs.declared.reader.Stop.TheVariants.{Off, Memory}
use Rattle.macro_grammar.specs.Tree.{Tree, Number, Dice, Quoted, Name, Call0, Call1, Call2, Call3, Negated, Inverted, Binary, Assigned}
use Rattle.macro_grammar.specs.Grammar.{DiceFit}

-- the node at i and those below it stand for the tree; a node stands behind its parts
abbrev pub Shows : List Node → ℕ → Tree → Type 0
Shows nodes i (Number at n) = slice_get nodes i ≡ Some (NumberNode at n)
Shows nodes i (Dice at g) = slice_get nodes i ≡ Some (DiceNode at g)
Shows nodes i (Quoted at m) = slice_get nodes i ≡ Some (QuotedNode at m)
Shows nodes i (Name at name) = (v : Vec ℕ) × (slice_get nodes i ≡ Some (NameNode at v)) × (v.items ≡ name)
Shows nodes i (Call0 at f) = slice_get nodes i ≡ Some (CallNode at f Nothing)
Shows nodes i (Call1 at f x) = (j : ℕ) × (j < i) × (slice_get nodes i ≡ Some (CallNode at f (One j))) × Shows nodes j x
Shows nodes i (Call2 at f x y) = (j : ℕ) × (k : ℕ) × (j < i) × (k < i) × (slice_get nodes i ≡ Some (CallNode at f (Two j k))) × Shows nodes j x × Shows nodes k y
Shows nodes i (Call3 at f x y z) = (j : ℕ) × (k : ℕ) × (l : ℕ) × (j < i) × (k < i) × (l < i) × (slice_get nodes i ≡ Some (CallNode at f (Three j k l))) × Shows nodes j x × Shows nodes k y × Shows nodes l z
Shows nodes i (Negated at t) = (j : ℕ) × (j < i) × (slice_get nodes i ≡ Some (NegatedNode at j)) × Shows nodes j t
Shows nodes i (Inverted at t) = (j : ℕ) × (j < i) × (slice_get nodes i ≡ Some (InvertedNode at j)) × Shows nodes j t
Shows nodes i (Binary at o l r) = (j : ℕ) × (k : ℕ) × (j < i) × (k < i) × (slice_get nodes i ≡ Some (BinaryNode at o j k)) × Shows nodes j l × Shows nodes k r
Shows nodes i (Assigned at name t) = (v : Vec ℕ) × (j : ℕ) × (j < i) × (slice_get nodes i ≡ Some (AssignedNode at v j)) × (v.items ≡ name) × Shows nodes j t

-- the old nodes stand in front
abbrev pub Keeps : List Node → List Node → Type 0
Keeps old new = (more : List Node) × (new ≡ old ++ more)

-- a node was put behind the old ones, and is the one at i
pub record Kept (old new : List Node) (i : ℕ) (node : Node) : Type 0 where
  pub at_end : i ≡ length old
  pub items : new ≡ old ++ (node ∷ [])

-- a node has no dice off the limits
abbrev pub NodeFits : Node → Type 0
NodeFits (NumberNode at n) = Unit {0}
NodeFits (DiceNode at g) = GroupFits g
NodeFits (QuotedNode at m) = Unit {0}
NodeFits (NameNode at v) = Unit {0}
NodeFits (CallNode at f a) = Unit {0}
NodeFits (NegatedNode at j) = Unit {0}
NodeFits (InvertedNode at j) = Unit {0}
NodeFits (BinaryNode at o j k) = Unit {0}
NodeFits (AssignedNode at v j) = Unit {0}

abbrev pub NodesFit : List Node → Type 0
NodesFit = All NodeFits

-- nodes were put behind the old ones, so that the one at i stands for the tree; no dice came but the tree's
pub record Puts (old new : List Node) (i : ℕ) (t : Tree) : Type 0 where
  pub shows : Shows new i t
  pub keeps : Keeps old new
  pub fits : NodesFit old → DiceFit t → NodesFit new

abbrev pub IsNoName : Tree → Type 0
IsNoName (Name at name) = ⊥
IsNoName t = Unit {0}

-- the same, where the tree is no name
pub record PutsCall (old new : List Node) (i : ℕ) (t : Tree) : Type 0 where
  pub puts : Puts old new i t
  pub no_name : IsNoName t

-- the same, where the tree has x, which stood in the old nodes, as a part
pub record Grows (x : Tree) (old new : List Node) (i : ℕ) (t : Tree) : Type 0 where
  pub puts : Puts old new i t
  pub part : DiceFit t → DiceFit x

-- what was found shows what is read from s, whatever number of turns is allowed, if it is enough; where reading stops, nothing is read
abbrev pub Finds : {V T : Type 0} → (V → T → Type 0) → (ℕ → Read T) → Result V Stop → List ℕ → List ℕ → Type 0
Finds {V} {T} Shown read (Ok v) s rest = (t : T) × Shown v t × ((turns : ℕ) → length s < turns → read turns s ≡ (Some t, rest))
Finds {V} {T} Shown read (Err Off) s rest = (turns : ℕ) → length s < turns → read turns s ≡ (None, rest)
Finds {V} {T} Shown read (Err Memory) s rest = Unit {0}

-- where s stands in a text of so many bytes whose end it is
abbrev pub place : ℕ → List ℕ → ℕ
place end s = end - length s
