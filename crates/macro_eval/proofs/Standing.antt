-- A node that stands means what its tree means, and its parts stand.
use Rattle.std.proofs.Common.{◌≡◌, ℕ, suc, ◌<◌, List, length, Some, sym, ◌∙◌, ap, ap₂, subst, arith}
use Rattle.std.specs.Prelude.{slice_get, Err}
use Rattle.std.proofs.lemmas.List.Elements.{All-get_or}
use Rattle.std.proofs.lemmas.Option.{slice_get_within, get_or_from_slice_get}
use Rattle.macro_parse.specs.declared.nodes.Node.{Node}
use Rattle.macro_parse.specs.declared.nodes.Node.TheVariants.{Number as NumberNode, Dice as DiceNode, Quoted as QuotedNode, Name as NameNode, Call as CallNode, Negated as NegatedNode, Inverted as InvertedNode, Binary as BinaryNode, Assigned as AssignedNode}
use Rattle.macro_parse.specs.declared.nodes.Arguments.TheVariants.{Nothing, One, Two, Three}
use Rattle.macro_grammar.specs.Tree.{Tree, Number, Dice, Quoted, Name, Call0, Call1, Call2, Call3, Negated, Inverted, Binary, Assigned}
use Rattle.macro_parse.specs.Flat.{Shows, NodeFits, NodesFit}
use Rattle.macro_eval.specs.declared.stop.MacroStop.TheVariants.{Budget}
use Rattle.macro_eval.specs.Steps.{State, Step, spending, spend}
use Rattle.macro_eval.specs.Functions.{Setting}
use Rattle.macro_eval.specs.Nodes.{value_of}
use Rattle.macro_parse.specs.Trees.{tree_with, tree_or_none, tree_within, tree_at, Stands}
use Rattle.macro_eval.specs.Flat.{value_at, spent_of, IsPart, NodeStands}
use Rattle.macro_parse.proofs.Trees.{tree_is, stands}

-- ---- the tree of a node is made of those of its parts

record Part (nodes : List Node) (i j : ℕ) : Type 0 where
  is : IsPart nodes i j
  tree : tree_within i nodes j ≡ tree_at nodes j

part : (nodes : List Node) (i j k : ℕ) → j ≡ k → k < i → Shows nodes k (tree_within i nodes j) → Part nodes i j
part nodes i j k e lt h =
    let shown : Shows nodes j (tree_within i nodes j) = subst (λ n. Shows nodes n (tree_within i nodes j)) (sym e) h in
    record {
      is = record { below = omega (arith, e, lt); stands = stands nodes j (tree_within i nodes j) shown };
      tree = sym (tree_is nodes j (tree_within i nodes j) shown);
    }

pub record Standing (nodes : List Node) (i : ℕ) (node : Node) : Type 0 where
  pub tree : tree_at nodes i ≡ tree_with (tree_at nodes) node
  pub stands : NodesFit nodes → NodeStands nodes i node

fits_at : (nodes : List Node) (i : ℕ) (node : Node) → slice_get nodes i ≡ Some node → NodesFit nodes → NodeFits node
fits_at nodes i node e fit = subst NodeFits (get_or_from_slice_get nodes i node node e) (All-get_or NodeFits nodes i node (slice_get_within nodes i node e) fit)

by_node : (nodes : List Node) (i : ℕ) (node : Node) → slice_get nodes i ≡ Some node → Shows nodes i (tree_with (tree_within i nodes) node)
    → tree_at nodes i ≡ tree_with (tree_within i nodes) node → Standing nodes i node
by_node nodes i (NumberNode at n) e h t = record { tree = t; stands = λ fit. tt }
by_node nodes i (DiceNode at g) e h t = record { tree = t; stands = λ fit. fits_at nodes i (DiceNode at g) e fit }
by_node nodes i (QuotedNode at m) e h t = record { tree = t; stands = λ fit. tt }
by_node nodes i (NameNode at v) e h t = record { tree = t; stands = λ fit. tt }
by_node nodes i (CallNode at f Nothing) e h t = record { tree = t; stands = λ fit. tt }
by_node nodes i (CallNode at f (One j)) e h t =
    let a = part nodes i j h.0 (let k = sym e ∙ h.2 in cc) h.1 h.3 in
    record { tree = t ∙ ap (Call1 at f) a.tree; stands = λ fit. a.is }
by_node nodes i (CallNode at f (Two j k)) e h t =
    let a = part nodes i j h.0 (let x = sym e ∙ h.4 in cc) h.2 h.5 in
    let b = part nodes i k h.1 (let x = sym e ∙ h.4 in cc) h.3 h.6 in
    record { tree = t ∙ ap₂ (Call2 at f) a.tree b.tree; stands = λ fit. (a.is, b.is) }
by_node nodes i (CallNode at f (Three j k l)) e h t =
    let a = part nodes i j h.0 (let x = sym e ∙ h.6 in cc) h.3 h.7 in
    let b = part nodes i k h.1 (let x = sym e ∙ h.6 in cc) h.4 h.8 in
    let c = part nodes i l h.2 (let x = sym e ∙ h.6 in cc) h.5 h.9 in
    record { tree = t ∙ (λ z. Call3 at f (a.tree z) (b.tree z) (c.tree z)); stands = λ fit. (a.is, b.is, c.is) }
by_node nodes i (NegatedNode at j) e h t =
    let a = part nodes i j h.0 (let x = sym e ∙ h.2 in cc) h.1 h.3 in
    record { tree = t ∙ ap (Negated at) a.tree; stands = λ fit. a.is }
by_node nodes i (InvertedNode at j) e h t =
    let a = part nodes i j h.0 (let x = sym e ∙ h.2 in cc) h.1 h.3 in
    record { tree = t ∙ ap (Inverted at) a.tree; stands = λ fit. a.is }
by_node nodes i (BinaryNode at o j k) e h t =
    let a = part nodes i j h.0 (let x = sym e ∙ h.4 in cc) h.2 h.5 in
    let b = part nodes i k h.1 (let x = sym e ∙ h.4 in cc) h.3 h.6 in
    record { tree = t ∙ ap₂ (Binary at o) a.tree b.tree; stands = λ fit. (a.is, b.is) }
by_node nodes i (AssignedNode at v j) e h t =
    let a = part nodes i j h.1 (let x = sym e ∙ h.3 in cc) h.2 h.5 in
    record { tree = t ∙ ap (Assigned at v.items) a.tree; stands = λ fit. a.is }

pub standing : (nodes : List Node) (i : ℕ) (node : Node) → slice_get nodes i ≡ Some node → Stands nodes i → Standing nodes i node
unfolding tree_within
standing nodes i node e h =
    let t : tree_at nodes i ≡ tree_with (tree_within i nodes) node = ap (tree_or_none (tree_within i nodes)) e in
    by_node nodes i node e (subst (Shows nodes i) t h) t

-- ---- units

spend_none : {A : Type 0} (s : State) (step : State → Step A) → s.units ≡ 0 → spend s step ≡ Err Budget
spend_none s step e = ap (λ u. spending u step s) e

spend_one : {A : Type 0} (s : State) (step : State → Step A) (left : ℕ) → s.units ≡ suc left → spend s step ≡ step (record s { units = left })
spend_one s step left e = ap (λ u. spending u step s) e

pub no_unit : (g : Setting) (t : Tree) (s : State) → s.units ≡ 0 → value_of g t s ≡ Err Budget
unfolding value_of
no_unit g (Number at n) s e = spend_none s _ e
no_unit g (Dice at group) s e = spend_none s _ e
no_unit g (Quoted at m) s e = spend_none s _ e
no_unit g (Name at name) s e = spend_none s _ e
no_unit g (Call0 at f) s e = spend_none s _ e
no_unit g (Call1 at f x) s e = spend_none s _ e
no_unit g (Call2 at f x y) s e = spend_none s _ e
no_unit g (Call3 at f x y z) s e = spend_none s _ e
no_unit g (Negated at x) s e = spend_none s _ e
no_unit g (Inverted at x) s e = spend_none s _ e
no_unit g (Binary at o x y) s e = spend_none s _ e
no_unit g (Assigned at name x) s e = spend_none s _ e

-- a node with its unit used, by the trees of its parts
unit_used : (g : Setting) (nodes : List Node) (node : Node) (s : State) (left : ℕ) → s.units ≡ suc left
    → value_of g (tree_with (tree_at nodes) node) s ≡ spent_of g nodes node (record s { units = left })
unfolding value_of
unit_used g nodes (NumberNode at n) s left e = spend_one s _ left e
unit_used g nodes (DiceNode at group) s left e = spend_one s _ left e
unit_used g nodes (QuotedNode at m) s left e = spend_one s _ left e
unit_used g nodes (NameNode at v) s left e = spend_one s _ left e
unit_used g nodes (CallNode at f Nothing) s left e = spend_one s _ left e
unit_used g nodes (CallNode at f (One j)) s left e = spend_one s _ left e
unit_used g nodes (CallNode at f (Two j k)) s left e = spend_one s _ left e
unit_used g nodes (CallNode at f (Three j k l)) s left e = spend_one s _ left e
unit_used g nodes (NegatedNode at j) s left e = spend_one s _ left e
unit_used g nodes (InvertedNode at j) s left e = spend_one s _ left e
unit_used g nodes (BinaryNode at o j k) s left e = spend_one s _ left e
unit_used g nodes (AssignedNode at v j) s left e = spend_one s _ left e

pub value_spent : (g : Setting) (nodes : List Node) (i : ℕ) (node : Node) (s : State) (left : ℕ) → slice_get nodes i ≡ Some node → Stands nodes i → s.units ≡ suc left
    → value_at g nodes i s ≡ spent_of g nodes node (record s { units = left })
value_spent g nodes i node s left e h u = ap (λ t. value_of g t s) (standing nodes i node e h).tree ∙ unit_used g nodes node s left u

-- a node that stands is there
pub is_there : (nodes : List Node) (i : ℕ) → Stands nodes i → i < length nodes
is_there nodes i h = by_shown nodes i (tree_at nodes i) h
  where
    by_shown : (nodes : List Node) (i : ℕ) (t : Tree) → Shows nodes i t → i < length nodes
    by_shown nodes i (Number at n) h = slice_get_within nodes i _ h
    by_shown nodes i (Dice at g) h = slice_get_within nodes i _ h
    by_shown nodes i (Quoted at m) h = slice_get_within nodes i _ h
    by_shown nodes i (Name at m) h = slice_get_within nodes i _ h.1
    by_shown nodes i (Call0 at f) h = slice_get_within nodes i _ h
    by_shown nodes i (Call1 at f x) h = slice_get_within nodes i _ h.2
    by_shown nodes i (Call2 at f x y) h = slice_get_within nodes i _ h.4
    by_shown nodes i (Call3 at f x y z) h = slice_get_within nodes i _ h.6
    by_shown nodes i (Negated at x) h = slice_get_within nodes i _ h.2
    by_shown nodes i (Inverted at x) h = slice_get_within nodes i _ h.2
    by_shown nodes i (Binary at o x y) h = slice_get_within nodes i _ h.4
    by_shown nodes i (Assigned at name x) h = slice_get_within nodes i _ h.3
