-- Whole texts, as the code reads them.
use Rattle.std.proofs.Common.{◌≡◌, ℕ, zero, suc, ◌-◌, ◌<◌, List, [], ◌∷◌, length, Some, None, Ok, Err, arith}
use Rattle.std.specs.Prelude.{slice_get}
use Rattle.std.specs.Global.{Vec}
use Rattle.reading.specs.Reading.{IsLongest}
use Rattle.macro_parse.specs.declared.nodes.Node.{Node}
use Rattle.macro_parse.specs.declared.nodes.Node.TheVariants.{Dice as DiceNode}
use Rattle.macro_parse.specs.declared.nodes.Address.{Address as FlatAddress}
use Rattle.macro_parse.specs.declared.nodes.Branch.{Branch as FlatBranch}
use Rattle.macro_parse.specs.declared.nodes.Options.{Options as FlatOptions}
use Rattle.macro_parse.specs.declared.nodes.Piece.{Piece as FlatPiece}
use Rattle.macro_parse.specs.declared.reader.Stop.TheVariants.{Off}
use Rattle.macro_grammar.specs.Tree.{Tree, Number, Dice, Quoted, Name, Call0, Call1, Call2, Call3, Negated, Inverted, Binary, Assigned, Address, Receivers, Hidden, Master, Runner, Both, Whisper, Branch, If, Count, Options, Addressed, Branched, AddressFirst, BranchFirst, Piece, Plain, Roll}
use Rattle.macro_grammar.specs.Grammar.{DiceFit, IsMacro}
use Rattle.macro_grammar.specs.Readers.{macro_at}
use Rattle.macro_grammar.specs.Limits.{AddressFits, BranchFits, OptionsFit, PieceFits, PiecesFit}
use Rattle.macro_parse.specs.Flat.{Shows, NodeFits, NodesFit, place}
use Rattle.macro_parse.specs.FlatPieces.{ShowsAddress, ShowsBranch, ShowsOptions, ShowsPiece, ShowsPieces}
use Rattle.macro_parse.specs.Turns.{FindsPieces}
use Rattle.macro_grammar.proofs.WholeMacros.{macro_found, macro_off, macro_longest}

-- ---- where all nodes fit, all dice do

fits_get : (nodes : List Node) (i : ℕ) (x : Node) → NodesFit nodes → slice_get nodes i ≡ Some x → NodeFits x
fits_get [] i x f e = absurd cc
fits_get (y ∷ ys) zero x f e = let same : y ≡ x = cc in rw (← same) (f 0 y (omega arith))
fits_get (y ∷ ys) (suc i) x f e = fits_get ys i x (λ k d lt. f (suc k) d (omega arith)) e

tree_fits : (nodes : List Node) (i : ℕ) (t : Tree) → NodesFit nodes → Shows nodes i t → DiceFit t
tree_fits nodes i (Number p n) f h = tt
tree_fits nodes i (Dice p g) f h = fits_get nodes i (DiceNode p g) f h
tree_fits nodes i (Quoted p m) f h = tt
tree_fits nodes i (Name p name) f h = tt
tree_fits nodes i (Call0 p c) f h = tt
tree_fits nodes i (Call1 p c x) f (j, lt, e, h) = tree_fits nodes j x f h
tree_fits nodes i (Call2 p c x y) f (j, k, lt, lt2, e, h, g) = (tree_fits nodes j x f h, tree_fits nodes k y f g)
tree_fits nodes i (Call3 p c x y z) f (j, k, l, lt, lt2, lt3, e, h, g, m) = (tree_fits nodes j x f h, tree_fits nodes k y f g, tree_fits nodes l z f m)
tree_fits nodes i (Negated p t) f (j, lt, e, h) = tree_fits nodes j t f h
tree_fits nodes i (Inverted p t) f (j, lt, e, h) = tree_fits nodes j t f h
tree_fits nodes i (Binary p o l r) f (j, k, lt, lt2, e, h, g) = (tree_fits nodes j l f h, tree_fits nodes k r f g)
tree_fits nodes i (Assigned p name t) f (v, j, lt, e, same, h) = tree_fits nodes j t f h

address_fits : (nodes : List Node) (a : FlatAddress) (x : Address) → NodesFit nodes → ShowsAddress nodes a x → AddressFits x
address_fits nodes a (Receivers p) f h = tt
address_fits nodes a (Hidden p) f h = tt
address_fits nodes a (Master p) f h = tt
address_fits nodes a (Runner p) f h = tt
address_fits nodes a (Both p) f h = tt
address_fits nodes a (Whisper p x) f (j, e, h) = tree_fits nodes j x f h

branch_fits : (nodes : List Node) (b : FlatBranch) (y : Branch) → NodesFit nodes → ShowsBranch nodes b y → BranchFits y
branch_fits nodes b (If p x) f (j, e, h) = tree_fits nodes j x f h
branch_fits nodes b (Count p x) f (j, e, h) = tree_fits nodes j x f h

options_fit : (nodes : List Node) (o : FlatOptions) (t : Options) → NodesFit nodes → ShowsOptions nodes o t → OptionsFit t
options_fit nodes o (Addressed x) f (a, e, h) = address_fits nodes a x f h
options_fit nodes o (Branched y) f (b, e, h) = branch_fits nodes b y f h
options_fit nodes o (AddressFirst x y) f (a, b, e, h, g) = (address_fits nodes a x f h, branch_fits nodes b y f g)
options_fit nodes o (BranchFirst y x) f (b, a, e, h, g) = (branch_fits nodes b y f h, address_fits nodes a x f g)

piece_fits : (nodes : List Node) (p : FlatPiece) (t : Piece) → NodesFit nodes → ShowsPiece nodes p t → PieceFits t
piece_fits nodes p (Plain at m) f h = tt
piece_fits nodes p (Roll at o x None) f (q, j, e, own, h) = (options_fit nodes q o f own, tree_fits nodes j x f h)
piece_fits nodes p (Roll at o x (Some y)) f (q, j, k, e, own, h, g) = (options_fit nodes q o f own, tree_fits nodes j x f h, tree_fits nodes k y f g)

pub pieces_fit : (nodes : List Node) (ps : List FlatPiece) (ts : List Piece) → NodesFit nodes → ShowsPieces nodes ps ts → PiecesFit ts
pieces_fit nodes [] [] f h = tt
pieces_fit nodes [] (t ∷ ts) f h = absurd h
pieces_fit nodes (p ∷ ps) [] f h = absurd h
pieces_fit nodes (p ∷ ps) (t ∷ ts) f h = (piece_fits nodes p t f h.0, pieces_fit nodes ps ts f h.1)

no_nodes : NodesFit []
no_nodes = λ k d lt. absurd (omega arith)

-- ---- whole texts

module _ (depth end : ℕ) (s r : List ℕ) (n0 n1 : List Node) (whole : end ≡ length s) (empty : n0 ≡ []) where
  pub text_read : (v : Vec FlatPiece) → FindsPieces depth end n0 n1 (Ok v) s r → (ts : List Piece) × IsMacro (suc depth) 0 s ts × ShowsPieces n1 v.items ts × (PiecesFit ts → NodesFit n1) × ((turns : ℕ) → length s < turns → macro_at depth turns s ≡ (Some ts, []))
  unfolding macro_at
  text_read v (ts, a, told) =
      let at : place end s ≡ 0 = omega arith in
      let e = told (suc (length s)) (omega arith) in
      let f = rw at at e in
      (ts, macro_found depth s ts (suc (length s)) f, a.shows, λ u. a.fits (rw empty no_nodes) u, λ turns lt. rw at at (told turns lt))

  pub told_off : FindsPieces depth end n0 n1 (Err Off) s r → (turns : ℕ) → length s < turns → macro_at depth turns s ≡ (None, r)
  unfolding macro_at
  told_off h turns lt = let at : place end s ≡ 0 = omega arith in rw at at (h turns lt)

  pub text_off : FindsPieces depth end n0 n1 (Err Off) s r → (ts : List Piece) → IsMacro (suc depth) 0 s ts → ⊥
  text_off h = macro_off depth s r (told_off h)

  pub text_longest : (at : ℕ) → at ≡ place end r → FindsPieces depth end n0 n1 (Err Off) s r → IsLongest (IsMacro (suc depth) 0) s at
  text_longest at e h = let k = macro_longest depth s r (told_off h) in let m : at ≡ length s - length r = omega arith in rw m k.1
