-- A node's tree is what it shows, and its parts stand before it.
use Rattle.std.proofs.Common.{◌≡◌, ℕ, zero, suc, ◌<◌, ◌≤◌, List, [], ◌∷◌, Some, None, refl, sym, ◌∙◌, ap, ap₂, subst, arith}
use Rattle.std.specs.Prelude.{slice_get, All}
use Rattle.macro_grammar.specs.declared.words.Operator.{Operator}
use Rattle.macro_grammar.specs.declared.words.Function.{Function}
use Rattle.macro_parse.specs.declared.nodes.Node.{Node}
use Rattle.macro_parse.specs.declared.nodes.Node.TheVariants.{Binary as BinaryNode, Negated as NegatedNode}
use Rattle.std.proofs.lemmas.List.Elements.{All-nil, All-cons}
use Rattle.macro_parse.specs.declared.nodes.Address.{Address as FlatAddress}
use Rattle.macro_parse.specs.declared.nodes.Branch.{Branch as FlatBranch}
use Rattle.macro_parse.specs.declared.nodes.Options.{Options as FlatOptions}
use Rattle.macro_parse.specs.declared.nodes.Piece.{Piece as FlatPiece}
use Rattle.macro_grammar.specs.Tree.{Tree, Number, Dice, Quoted, Name, Call0, Call1, Call2, Call3, Negated, Inverted, Binary, Assigned, Address, Receivers, Hidden, Master, Runner, Both, Whisper, Branch, If, Count, Options, Addressed, Branched, AddressFirst, BranchFirst, Piece, Plain, Roll}
use Rattle.macro_parse.specs.FlatPieces.{ShowsAddress, ShowsBranch, ShowsOptions, ShowsPiece, ShowsPieces}
use Rattle.macro_parse.specs.Flat.{Shows}
use Rattle.macro_parse.specs.Trees.{tree_or_none, tree_within, tree_at, Stands, address_at, branch_at, options_at, piece_at, pieces_at, AddressStands, BranchStands, OptionsStand, PieceStands}

-- what the node shows is its tree, where enough may stand below one another
pub shown_is : (nodes : List Node) (depth i : ℕ) (t : Tree) → i < depth → Shows nodes i t → tree_within depth nodes i ≡ t
unfolding tree_within
shown_is nodes zero i t lt h = absurd (omega (arith, lt))
shown_is nodes (suc d) i (Number at n) lt h = ap (tree_or_none (tree_within d nodes)) h
shown_is nodes (suc d) i (Dice at g) lt h = ap (tree_or_none (tree_within d nodes)) h
shown_is nodes (suc d) i (Quoted at m) lt h = ap (tree_or_none (tree_within d nodes)) h
shown_is nodes (suc d) i (Name at m) lt h = ap (tree_or_none (tree_within d nodes)) h.1 ∙ ap (Name at) h.2
shown_is nodes (suc d) i (Call0 at f) lt h = ap (tree_or_none (tree_within d nodes)) h
shown_is nodes (suc d) i (Call1 at f x) lt h = ap (tree_or_none (tree_within d nodes)) h.2 ∙ ap (Call1 at f) (shown_is nodes d h.0 x (omega (arith, lt, h.1)) h.3)
shown_is nodes (suc d) i (Call2 at f x y) lt h =
    ap (tree_or_none (tree_within d nodes)) h.4
    ∙ ap₂ (Call2 at f) (shown_is nodes d h.0 x (omega (arith, lt, h.2)) h.5) (shown_is nodes d h.1 y (omega (arith, lt, h.3)) h.6)
shown_is nodes (suc d) i (Call3 at f x y z) lt h =
    let a : tree_within d nodes h.0 ≡ x = shown_is nodes d h.0 x (omega (arith, lt, h.3)) h.7 in
    let b : tree_within d nodes h.1 ≡ y = shown_is nodes d h.1 y (omega (arith, lt, h.4)) h.8 in
    let c : tree_within d nodes h.2 ≡ z = shown_is nodes d h.2 z (omega (arith, lt, h.5)) h.9 in
    ap (tree_or_none (tree_within d nodes)) h.6 ∙ (λ i. Call3 at f (a i) (b i) (c i))
shown_is nodes (suc d) i (Negated at x) lt h = ap (tree_or_none (tree_within d nodes)) h.2 ∙ ap (Negated at) (shown_is nodes d h.0 x (omega (arith, lt, h.1)) h.3)
shown_is nodes (suc d) i (Inverted at x) lt h = ap (tree_or_none (tree_within d nodes)) h.2 ∙ ap (Inverted at) (shown_is nodes d h.0 x (omega (arith, lt, h.1)) h.3)
shown_is nodes (suc d) i (Binary at o x y) lt h =
    ap (tree_or_none (tree_within d nodes)) h.4
    ∙ ap₂ (Binary at o) (shown_is nodes d h.0 x (omega (arith, lt, h.2)) h.5) (shown_is nodes d h.1 y (omega (arith, lt, h.3)) h.6)
shown_is nodes (suc d) i (Assigned at name x) lt h =
    let a : tree_within d nodes h.1 ≡ x = shown_is nodes d h.1 x (omega (arith, lt, h.2)) h.5 in
    ap (tree_or_none (tree_within d nodes)) h.3 ∙ (λ i. Assigned at (h.4 i) (a i))

pub tree_is : (nodes : List Node) (i : ℕ) (t : Tree) → Shows nodes i t → tree_at nodes i ≡ t
tree_is nodes i t h = shown_is nodes (suc i) i t (omega arith) h

pub stands : (nodes : List Node) (i : ℕ) (t : Tree) → Shows nodes i t → Stands nodes i
stands nodes i t h = subst (Shows nodes i) (sym (tree_is nodes i t h)) h

-- ---- options and pieces

shown_address : (nodes : List Node) (a : FlatAddress) (x : Address) → ShowsAddress nodes a x → (address_at nodes a ≡ x) × AddressStands nodes a
shown_address nodes a (Receivers at) h = (ap (address_at nodes) h, subst (AddressStands nodes) (sym h) tt)
shown_address nodes a (Hidden at) h = (ap (address_at nodes) h, subst (AddressStands nodes) (sym h) tt)
shown_address nodes a (Master at) h = (ap (address_at nodes) h, subst (AddressStands nodes) (sym h) tt)
shown_address nodes a (Runner at) h = (ap (address_at nodes) h, subst (AddressStands nodes) (sym h) tt)
shown_address nodes a (Both at) h = (ap (address_at nodes) h, subst (AddressStands nodes) (sym h) tt)
shown_address nodes a (Whisper at x) h = (ap (address_at nodes) h.1 ∙ ap (Whisper at) (tree_is nodes h.0 x h.2), subst (AddressStands nodes) (sym h.1) (stands nodes h.0 x h.2))

shown_branch : (nodes : List Node) (b : FlatBranch) (x : Branch) → ShowsBranch nodes b x → (branch_at nodes b ≡ x) × BranchStands nodes b
shown_branch nodes b (If at x) h = (ap (branch_at nodes) h.1 ∙ ap (If at) (tree_is nodes h.0 x h.2), subst (BranchStands nodes) (sym h.1) (stands nodes h.0 x h.2))
shown_branch nodes b (Count at x) h = (ap (branch_at nodes) h.1 ∙ ap (Count at) (tree_is nodes h.0 x h.2), subst (BranchStands nodes) (sym h.1) (stands nodes h.0 x h.2))

shown_options : (nodes : List Node) (o : FlatOptions) (x : Options) → ShowsOptions nodes o x → (options_at nodes o ≡ x) × OptionsStand nodes o
shown_options nodes o (Addressed x) h =
    let a = shown_address nodes h.0 x h.2 in
    (ap (options_at nodes) h.1 ∙ ap Addressed a.0, subst (OptionsStand nodes) (sym h.1) a.1)
shown_options nodes o (Branched y) h =
    let b = shown_branch nodes h.0 y h.2 in
    (ap (options_at nodes) h.1 ∙ ap Branched b.0, subst (OptionsStand nodes) (sym h.1) b.1)
shown_options nodes o (AddressFirst x y) h =
    let a = shown_address nodes h.0 x h.3 in
    let b = shown_branch nodes h.1 y h.4 in
    (ap (options_at nodes) h.2 ∙ ap₂ AddressFirst a.0 b.0, subst (OptionsStand nodes) (sym h.2) (a.1, b.1))
shown_options nodes o (BranchFirst y x) h =
    let b = shown_branch nodes h.0 y h.3 in
    let a = shown_address nodes h.1 x h.4 in
    (ap (options_at nodes) h.2 ∙ ap₂ BranchFirst b.0 a.0, subst (OptionsStand nodes) (sym h.2) (b.1, a.1))

shown_piece : (nodes : List Node) (p : FlatPiece) (t : Piece) → ShowsPiece nodes p t → (piece_at nodes p ≡ t) × PieceStands nodes p
shown_piece nodes p (Plain at m) h = (ap (piece_at nodes) h, subst (PieceStands nodes) (sym h) tt)
shown_piece nodes p (Roll at o x None) h =
    let a = shown_options nodes h.0 o h.3 in (
      ap (piece_at nodes) h.2 ∙ (λ i. Roll at (a.0 i) (tree_is nodes h.1 x h.4 i) None),
      subst (PieceStands nodes) (sym h.2) (a.1, stands nodes h.1 x h.4, tt),
    )
shown_piece nodes p (Roll at o x (Some y)) h =
    let a = shown_options nodes h.0 o h.4 in (
      ap (piece_at nodes) h.3 ∙ (λ i. Roll at (a.0 i) (tree_is nodes h.1 x h.5 i) (Some (tree_is nodes h.2 y h.6 i))),
      subst (PieceStands nodes) (sym h.3) (a.1, stands nodes h.1 x h.5, stands nodes h.2 y h.6),
    )

-- what pieces show is what they stand for, and they stand
pub shown_pieces : (nodes : List Node) (ps : List FlatPiece) (ts : List Piece) → ShowsPieces nodes ps ts → (pieces_at nodes ps ≡ ts) × All (PieceStands nodes) ps
shown_pieces nodes [] [] h = (refl, All-nil (PieceStands nodes))
shown_pieces nodes [] (t ∷ ts) h = absurd h
shown_pieces nodes (p ∷ ps) [] h = absurd h
shown_pieces nodes (p ∷ ps) (t ∷ ts) h =
    let a = shown_piece nodes p t h.0 in
    let b = shown_pieces nodes ps ts h.1 in
    (ap₂ (λ x xs. x ∷ xs) a.0 b.0, All-cons (PieceStands nodes) p ps a.1 b.1)
