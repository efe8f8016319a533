-- The meaning of flat nodes: that of the trees that they stand for.
use Rattle.std.specs.Prelude.{◌≡◌, ℕ, suc, ◌<◌, List, pos}
use Rattle.dice_parse.specs.Grammar.{GroupFits}
use Rattle.macro_grammar.specs.declared.words.Function.{Function}
use Rattle.macro_parse.specs.declared.nodes.Node.{Node}
use Rattle.macro_parse.specs.declared.nodes.Node.TheVariants.{Number as NumberNode, Dice as DiceNode, Quoted as QuotedNode, Name as NameNode, Call as CallNode, Negated as NegatedNode, Inverted as InvertedNode, Binary as BinaryNode, Assigned as AssignedNode}
use Rattle.macro_parse.specs.declared.nodes.Arguments.{Arguments}
use Rattle.macro_parse.specs.declared.nodes.Arguments.TheVariants.{Nothing, One, Two, Three}
use Rattle.macro_eval.specs.declared.value.Value.{Value}
use Rattle.macro_eval.specs.Steps.{State, Step, follow, whole, text, named}
use Rattle.macro_eval.specs.Operators.{negated, inverted, operated}
use Rattle.macro_eval.specs.Functions.{Setting, called0, called1, called2, called3}
use Rattle.macro_eval.specs.Nodes.{value_of, known, rolled, assigned}
use Rattle.macro_parse.specs.Trees.{tree_at, Stands}

-- the value of the node at i
abbrev pub value_at : Setting → List Node → ℕ → State → Step Value
value_at g nodes i s = value_of g (tree_at nodes i) s

abbrev pub called_of : Setting → List Node → ℕ → Function → Arguments → State → Step Value
called_of g nodes at f Nothing s = called0 g at f s
called_of g nodes at f (One j) s = follow (value_at g nodes j s) (λ a s. called1 g at f a s)
called_of g nodes at f (Two j k) s = follow (value_at g nodes j s) (λ a s. follow (value_at g nodes k s) (λ b s. called2 g at f a b s))
called_of g nodes at f (Three j k l) s = follow (value_at g nodes j s) (λ a s. follow (value_at g nodes k s) (λ b s. follow (value_at g nodes l s) (λ c s. called3 g at f a b c s)))

-- the value of a node, once its unit is used
abbrev pub spent_of : Setting → List Node → Node → State → Step Value
spent_of g nodes (NumberNode at n) s = whole (pos n) s
spent_of g nodes (DiceNode at group) s = rolled group s
spent_of g nodes (QuotedNode at t) s = text at t s
spent_of g nodes (NameNode at v) s = known at (named v.items s) s
spent_of g nodes (CallNode at f arguments) s = called_of g nodes at f arguments s
spent_of g nodes (NegatedNode at j) s = follow (value_at g nodes j s) (λ a s. negated at a s)
spent_of g nodes (InvertedNode at j) s = follow (value_at g nodes j s) (λ a s. inverted at a s)
spent_of g nodes (BinaryNode at o j k) s = operated at o (λ s. value_at g nodes j s) (λ s. value_at g nodes k s) s
spent_of g nodes (AssignedNode at v j) s = follow (value_at g nodes j s) (λ a s. assigned v.items a s)

-- a part stands, below that place
pub record IsPart (nodes : List Node) (place j : ℕ) : Type 0 where
  pub below : j < place
  pub stands : Stands nodes j

abbrev pub ArgumentsStand : List Node → ℕ → Arguments → Type 0
ArgumentsStand nodes place Nothing = Unit {0}
ArgumentsStand nodes place (One j) = IsPart nodes place j
ArgumentsStand nodes place (Two j k) = IsPart nodes place j × IsPart nodes place k
ArgumentsStand nodes place (Three j k l) = IsPart nodes place j × IsPart nodes place k × IsPart nodes place l

-- the parts of a node stand, below its place
abbrev pub NodeStands : List Node → ℕ → Node → Type 0
NodeStands nodes place (NumberNode at n) = Unit {0}
NodeStands nodes place (DiceNode at group) = GroupFits group
NodeStands nodes place (QuotedNode at t) = Unit {0}
NodeStands nodes place (NameNode at v) = Unit {0}
NodeStands nodes place (CallNode at f arguments) = ArgumentsStand nodes place arguments
NodeStands nodes place (NegatedNode at j) = IsPart nodes place j
NodeStands nodes place (InvertedNode at j) = IsPart nodes place j
NodeStands nodes place (BinaryNode at o j k) = IsPart nodes place j × IsPart nodes place k
NodeStands nodes place (AssignedNode at v j) = IsPart nodes place j

-- the node at i is worth what it is once its unit is used
abbrev pub MeansSpent : Setting → List Node → ℕ → Node → State → Type 0
MeansSpent g nodes i node s = (left : ℕ) → s.units ≡ suc left → value_at g nodes i s ≡ spent_of g nodes node (record s { units = left })
