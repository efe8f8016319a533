-- The test of the limits holds exactly where they do, and what it makes of a text's pieces.
use Rattle.std.proofs.Common.{◌≡◌, ◌<◌, ◌&&◌, ◌-◌, ℕ, suc, Bool, true, false, if◌then◌else◌, length, List, [], ◌∷◌, Option, Some, None, Ok, Err, refl, sym, ◌∙◌, ap, arith}
use Rattle.std.specs.Prelude.{nat_le}
use Rattle.std.proofs.lemmas.Bool.Decides.{nat_tests}
use Rattle.dice_parse.specs.declared.parts.Group.{Group}
use Rattle.dice_parse.specs.declared.parts.Part.TheVariants.{Group as AGroup}
use Rattle.dice_parse.specs.Grammar.{GroupFits}
use Rattle.dice_parse.specs.Answers.{part_fits}
use Rattle.macro_grammar.specs.Tree.{Tree, Number, Dice, Quoted, Name, Call0, Call1, Call2, Call3, Negated, Inverted, Binary, Assigned, Address, Receivers, Hidden, Master, Runner, Both, Whisper, Branch, If, Count, Options, Addressed, Branched, AddressFirst, BranchFirst, Piece, Plain, Roll}
use Rattle.macro_grammar.specs.Grammar.{DiceFit}
use Rattle.macro_grammar.specs.Readers.{macro_at}
use Rattle.macro_grammar.specs.Limits.{AddressFits, BranchFits, OptionsFit, PieceFits, PiecesFit}
use Rattle.macro_parse.specs.declared.texts.MacroParseFault.TheVariants.{MacroSyntax, DiceLimit}
use Rattle.macro_parse.specs.Answers.{tree_fits, address_fits, branch_fits, options_fit, piece_fits, are_within, answer_by, macro_of}

both : (a b : Bool) → (a && b) ≡ true → (a ≡ true) × (b ≡ true)
both true b h = (refl, h)
both false b h = cc

together : (a b : Bool) → a ≡ true → b ≡ true → (a && b) ≡ true
together true b h k = k
together false b h k = cc

-- ---- the test tells the limits

group_to : (g : Group) → part_fits (AGroup g) ≡ true → GroupFits g
group_to g h =
    let a = both (nat_le 1 g.count) (nat_le g.count 100 && (nat_le 1 g.sides && nat_le g.sides 1000)) h in
    let b = both (nat_le g.count 100) (nat_le 1 g.sides && nat_le g.sides 1000) a.1 in
    let d = both (nat_le 1 g.sides) (nat_le g.sides 1000) b.1 in
    record { some = grind (arith, nat_tests); count = grind (arith, nat_tests); side = grind (arith, nat_tests); sides = grind (arith, nat_tests) }

tree_to : (t : Tree) → tree_fits t ≡ true → DiceFit t
tree_to (Number at n) h = tt
tree_to (Dice at g) h = group_to g h
tree_to (Quoted at m) h = tt
tree_to (Name at name) h = tt
tree_to (Call0 at f) h = tt
tree_to (Call1 at f x) h = tree_to x h
tree_to (Call2 at f x y) h = let a = both (tree_fits x) (tree_fits y) h in (tree_to x a.0, tree_to y a.1)
tree_to (Call3 at f x y z) h =
    let a = both (tree_fits x) (tree_fits y && tree_fits z) h in
    let b = both (tree_fits y) (tree_fits z) a.1 in
    (tree_to x a.0, tree_to y b.0, tree_to z b.1)
tree_to (Negated at x) h = tree_to x h
tree_to (Inverted at x) h = tree_to x h
tree_to (Binary at o x y) h = let a = both (tree_fits x) (tree_fits y) h in (tree_to x a.0, tree_to y a.1)
tree_to (Assigned at name x) h = tree_to x h

address_to : (a : Address) → address_fits a ≡ true → AddressFits a
address_to (Receivers at) h = tt
address_to (Hidden at) h = tt
address_to (Master at) h = tt
address_to (Runner at) h = tt
address_to (Both at) h = tt
address_to (Whisper at x) h = tree_to x h

branch_to : (b : Branch) → branch_fits b ≡ true → BranchFits b
branch_to (If at x) h = tree_to x h
branch_to (Count at x) h = tree_to x h

options_to : (o : Options) → options_fit o ≡ true → OptionsFit o
options_to (Addressed a) h = address_to a h
options_to (Branched b) h = branch_to b h
options_to (AddressFirst a b) h = let k = both (address_fits a) (branch_fits b) h in (address_to a k.0, branch_to b k.1)
options_to (BranchFirst b a) h = let k = both (branch_fits b) (address_fits a) h in (branch_to b k.0, address_to a k.1)

piece_to : (p : Piece) → piece_fits p ≡ true → PieceFits p
piece_to (Plain at m) h = tt
piece_to (Roll at o x None) h = let a = both (options_fit o) (tree_fits x) h in (options_to o a.0, tree_to x a.1)
piece_to (Roll at o x (Some y)) h =
    let a = both (options_fit o) (tree_fits x && tree_fits y) h in
    let b = both (tree_fits x) (tree_fits y) a.1 in
    (options_to o a.0, tree_to x b.0, tree_to y b.1)

pub pieces_to : (ps : List Piece) → are_within ps ≡ true → PiecesFit ps
pieces_to [] h = tt
pieces_to (p ∷ ps) h = let a = both (piece_fits p) (are_within ps) h in (piece_to p a.0, pieces_to ps a.1)

-- ---- and holds where they do

group_from : (g : Group) → GroupFits g → part_fits (AGroup g) ≡ true
group_from g h = let some = h.some in let count = h.count in let side = h.side in let sides = h.sides in grind (arith, nat_tests)

tree_from : (t : Tree) → DiceFit t → tree_fits t ≡ true
tree_from (Number at n) h = refl
tree_from (Dice at g) h = group_from g h
tree_from (Quoted at m) h = refl
tree_from (Name at name) h = refl
tree_from (Call0 at f) h = refl
tree_from (Call1 at f x) h = tree_from x h
tree_from (Call2 at f x y) h = together (tree_fits x) (tree_fits y) (tree_from x h.0) (tree_from y h.1)
tree_from (Call3 at f x y z) h =
    together (tree_fits x) (tree_fits y && tree_fits z) (tree_from x h.0) (together (tree_fits y) (tree_fits z) (tree_from y h.1) (tree_from z h.2))
tree_from (Negated at x) h = tree_from x h
tree_from (Inverted at x) h = tree_from x h
tree_from (Binary at o x y) h = together (tree_fits x) (tree_fits y) (tree_from x h.0) (tree_from y h.1)
tree_from (Assigned at name x) h = tree_from x h

address_from : (a : Address) → AddressFits a → address_fits a ≡ true
address_from (Receivers at) h = refl
address_from (Hidden at) h = refl
address_from (Master at) h = refl
address_from (Runner at) h = refl
address_from (Both at) h = refl
address_from (Whisper at x) h = tree_from x h

branch_from : (b : Branch) → BranchFits b → branch_fits b ≡ true
branch_from (If at x) h = tree_from x h
branch_from (Count at x) h = tree_from x h

options_from : (o : Options) → OptionsFit o → options_fit o ≡ true
options_from (Addressed a) h = address_from a h
options_from (Branched b) h = branch_from b h
options_from (AddressFirst a b) h = together (address_fits a) (branch_fits b) (address_from a h.0) (branch_from b h.1)
options_from (BranchFirst b a) h = together (branch_fits b) (address_fits a) (branch_from b h.0) (address_from a h.1)

piece_from : (p : Piece) → PieceFits p → piece_fits p ≡ true
piece_from (Plain at m) h = refl
piece_from (Roll at o x None) h = together (options_fit o) (tree_fits x) (options_from o h.0) (tree_from x h.1)
piece_from (Roll at o x (Some y)) h =
    together (options_fit o) (tree_fits x && tree_fits y) (options_from o h.0) (together (tree_fits x) (tree_fits y) (tree_from x h.1) (tree_from y h.2))

pub pieces_from : (ps : List Piece) → PiecesFit ps → are_within ps ≡ true
pieces_from [] h = refl
pieces_from (p ∷ ps) h = together (piece_fits p) (are_within ps) (piece_from p h.0) (pieces_from ps h.1)

pub pieces_off : (ps : List Piece) → (PiecesFit ps → ⊥) → are_within ps ≡ false
pieces_off ps off = by_case (are_within ps) refl
  where
    by_case : (b : Bool) → are_within ps ≡ b → are_within ps ≡ false
    by_case true e = absurd (off (pieces_to ps e))
    by_case false e = e

-- ---- the answer to a text, by what was read of it

answered : (s rest : List ℕ) (o : Option (List Piece)) → ((turns : ℕ) → length s < turns → macro_at 31 turns s ≡ (o, rest)) → macro_of s ≡ answer_by s (o, rest)
unfolding macro_of
answered s rest o h = ap (answer_by s) (h (suc (length s)) (omega arith))

pub macro_fit : (s : List ℕ) (ps : List Piece) → ((turns : ℕ) → length s < turns → macro_at 31 turns s ≡ (Some ps, [])) → PiecesFit ps → macro_of s ≡ Ok ps
macro_fit s ps h fit = answered s [] (Some ps) h ∙ ap (λ b. if b then Ok ps else Err DiceLimit) (pieces_from ps fit)

pub macro_too_much : (s : List ℕ) (ps : List Piece) → ((turns : ℕ) → length s < turns → macro_at 31 turns s ≡ (Some ps, [])) → (PiecesFit ps → ⊥) → macro_of s ≡ Err DiceLimit
macro_too_much s ps h off = answered s [] (Some ps) h ∙ ap (λ b. if b then Ok ps else Err DiceLimit) (pieces_off ps off)

pub macro_bad : (s rest : List ℕ) (at : ℕ) → ((turns : ℕ) → length s < turns → macro_at 31 turns s ≡ (None, rest)) → at ≡ length s - length rest → macro_of s ≡ Err (MacroSyntax at)
macro_bad s rest at h is = answered s rest None h ∙ ap (λ n. Err (MacroSyntax n)) (sym is)
