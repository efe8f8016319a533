-- Macros whose runs are worked out by hand.
use Rattle.std.specs.Prelude.{false, List, [], ◌∷◌, None, codes}
use Rattle.chat.specs.declared.to.To.TheVariants.{All}
use Rattle.dice_parse.specs.declared.parts.Group.{Group}
use Rattle.macro_grammar.specs.declared.words.Operator.TheVariants.{And, Divide, Remainder, Add}
use Rattle.macro_grammar.specs.Tree.{Tree, Number, Dice, Name, Negated, Binary, Assigned, Receivers, Hidden, Master, Runner, Whisper, Count, Addressed, AddressFirst, Piece, Plain, Roll}
use Rattle.macro_eval.specs.Functions.{Setting}
use Rattle.readable.specs.Table.{no_table}

-- seat 1 runs a macro to all of three seats
abbrev pub to_all : Setting
to_all = record { table = no_table 3; args = []; from = 1; to = All }

-- one roll of an expression that begins at byte 4: [r: ..]
abbrev pub shown_to_all : Tree → List Piece
shown_to_all x = Roll 0 (Addressed (Receivers 1)) x None ∷ []

abbrev pub d20 : Group
d20 = record { count = 1; sides = 20; explode = false; again = None; tail = None }

-- [h: x = 1d20][g: x] hit [s: x]
abbrev pub hit : List Piece
hit = Roll 0 (Addressed (Hidden 1)) (Assigned 4 (codes "x") (Dice 8 d20)) None ∷ (Roll 13 (Addressed (Master 14)) (Name 17 (codes "x")) None
    ∷ (Plain 19 (codes " hit ") ∷ (Roll 24 (Addressed (Runner 25)) (Name 28 (codes "x")) None ∷ [])))

-- [r: 1 / 0]
abbrev pub by_zero : Tree
by_zero = Binary 6 Divide (Number 4 1) (Number 8 0)

-- [r: 0 && 1 / 0]
abbrev pub decided_by_the_left : Tree
decided_by_the_left = Binary 6 And (Number 4 0) (Binary 11 Divide (Number 9 1) (Number 13 0))

-- [r: -7 % 3]
abbrev pub remainder_below_zero : Tree
remainder_below_zero = Binary 7 Remainder (Negated 4 (Number 5 7)) (Number 9 3)

-- [w(2),count(3): count + 1]
abbrev pub whispered_rounds : List Piece
whispered_rounds = Roll 0 (AddressFirst (Whisper 1 (Number 3 2)) (Count 6 (Number 12 3))) (Binary 22 Add (Name 16 (codes "count")) (Number 24 1)) None ∷ []
