-- The same grammar, as it is read.
use Rattle.std.specs.Prelude.{ℕ, zero, suc, ◌+◌, Bool, true, false, ◌&&◌, ◌||◌, cond, List, [], ◌∷◌, Option, Some, None, nat_le, nat_eq}
use Rattle.reading.specs.Reading.{Read, done, carry, bind, on_head, item}
use Rattle.reading.specs.Number.{is_digit, number_at}
use Rattle.reading.specs.Placed.{bind_at, many_at, more_at, chain_at}
use Rattle.dice_parse.specs.Readers.{die_at}
use Rattle.macro_grammar.specs.declared.words.Operator.{Operator}
use Rattle.macro_grammar.specs.declared.words.Operator.TheVariants.{Or, And, Equal, NotEqual, LessOrEqual, GreaterOrEqual, Less, Greater, Add, Subtract, Multiply, Divide, Remainder}
use Rattle.macro_grammar.specs.declared.words.Function.{Function}
use Rattle.macro_grammar.specs.declared.words.Function.TheVariants.{Prop, Own, Secret, Has, SetProp, SetOwn, Arg, Argc, Min, Max, Abs, Len, Num}
use Rattle.macro_grammar.specs.Tree.{Tree, Number, Dice, Quoted, Name, Call0, Call1, Call2, Call3, Negated, Inverted, Binary, Assigned, Address, Receivers, Hidden, Master, Runner, Both, Whisper, Branch, If, Count, Options, Addressed, Branched, AddressFirst, BranchFirst, Piece, Plain, Roll, FirstOption, ForWhom, OnWhat}
use Rattle.macro_grammar.specs.Grammar.{function_name, arity, is_quote, is_bracket, has_if}

-- ---- blanks, names, functions

abbrev pub is_blank : ℕ → Bool
is_blank b = nat_eq b 32

abbrev pub blanks_at : Read (List ℕ)
blanks_at [] = (Some [], [])
blanks_at (b ∷ s) = cond (is_blank b) (carry (λ bs. done (b ∷ bs)) (blanks_at s).0 (blanks_at s).1) (Some [], b ∷ s)

abbrev pub is_letter : ℕ → Bool
is_letter b = nat_le 97 b && nat_le b 122

abbrev pub is_name_byte : ℕ → Bool
is_name_byte b = is_letter b || (is_digit b || nat_eq b 95)

unfoldable pub name_at : Read (List ℕ)
name_at = bind (item is_letter) (λ b. bind (many_at is_name_byte 23) (λ bs. done (b ∷ bs)))

abbrev pub same_bytes : List ℕ → List ℕ → Bool
same_bytes [] [] = true
same_bytes [] (c ∷ t) = false
same_bytes (b ∷ s) [] = false
same_bytes (b ∷ s) (c ∷ t) = nat_eq b c && same_bytes s t

abbrev pub function_among : List Function → List ℕ → Option Function
function_among [] name = None
function_among (f ∷ fs) name = cond (same_bytes (function_name f) name) (Some f) (function_among fs name)

abbrev pub functions : List Function
functions = Prop ∷ (Own ∷ (Secret ∷ (Has ∷ (SetProp ∷ (SetOwn ∷ (Arg ∷ (Argc ∷ (Min ∷ (Max ∷ (Abs ∷ (Len ∷ (Num ∷ []))))))))))))

-- the function of a name
unfoldable pub function_of : List ℕ → Option Function
function_of = function_among functions

-- ---- atoms that nest nothing

-- a number, or a group of dice where a d stands behind at most nine digits
unfoldable pub number_or_dice_at : ℕ → Read Tree
number_or_dice_at at = bind_at at (λ _. number_at 17) (λ at2 n. on_head (λ b. nat_eq 100 b && nat_le at2 (at + 9))
    (bind (item (nat_eq 100)) (λ _. bind (die_at n) (λ g. done (Dice at g)))) (done (Number at n)))

-- up to the closing quote, which is taken; behind says that a backslash came last
abbrev pub inside_at : Bool → Read (List ℕ)
inside_at behind [] = (None, [])
inside_at true (b ∷ s) = cond (is_quote b) (carry (λ m. done (b ∷ m)) (inside_at false s).0 (inside_at false s).1) (None, b ∷ s)
inside_at false (b ∷ s) = cond (nat_eq 34 b) (Some [], s) (cond (nat_eq 92 b) (inside_at true s) (carry (λ m. done (b ∷ m)) (inside_at false s).0 (inside_at false s).1))

unfoldable pub quoted_at : ℕ → Read Tree
quoted_at at = bind (item (nat_eq 34)) (λ _. bind (inside_at false) (λ m. done (Quoted at m)))

-- ---- names and calls

-- a separator and an argument
abbrev pub argument_at : {A : Type 0} → (ℕ → Read Tree) → ℕ → ℕ → (ℕ → Tree → Read A) → Read A
argument_at expr separator at k = bind_at at (λ _. item (nat_eq separator)) (λ at2 _. bind_at at2 expr k)

abbrev pub closed : {A : Type 0} → A → Read A
closed x = bind (item (nat_eq 41)) (λ _. done x)

-- what stands behind a function's name, from its bracket on
unfoldable pub arguments_at : (ℕ → Read Tree) → ℕ → Function → ℕ → ℕ → Read Tree
arguments_at expr at f at2 zero = bind (item (nat_eq 40)) (λ _. closed (Call0 at f))
arguments_at expr at f at2 (suc zero) = argument_at expr 40 at2 (λ at3 x. closed (Call1 at f x))
arguments_at expr at f at2 (suc (suc zero)) = argument_at expr 40 at2 (λ at3 x. argument_at expr 44 at3 (λ at4 y. closed (Call2 at f x y)))
arguments_at expr at f at2 (suc (suc (suc n))) = argument_at expr 40 at2 (λ at3 x. argument_at expr 44 at3 (λ at4 y. argument_at expr 44 at4 (λ at5 z. closed (Call3 at f x y z))))

-- with arguments only where something may nest
abbrev pub may_call : Bool → Function → Bool
may_call nests f = nests || nat_eq (arity f) 0

abbrev pub called_at : Bool → (ℕ → Read Tree) → ℕ → ℕ → List ℕ → Option Function → Read Tree
called_at nests expr at at2 name None = done (Name at name)
called_at nests expr at at2 name (Some f) = on_head (λ b. nat_eq 40 b && may_call nests f) (arguments_at expr at f at2 (arity f)) (done (Name at name))

unfoldable pub word_at : Bool → (ℕ → Read Tree) → ℕ → Read Tree
word_at nests expr at = bind_at at (λ _. name_at) (λ at2 name. called_at nests expr at at2 name (function_of name))

-- ---- unaries

unfoldable pub group_at : (ℕ → Read Tree) → ℕ → Read Tree
group_at expr at = argument_at expr 40 at (λ at2 t. closed t)

unfoldable pub atom_at : Bool → (ℕ → Read Tree) → ℕ → Read Tree
atom_at nests expr at = on_head is_digit (number_or_dice_at at)
    (on_head (nat_eq 34) (quoted_at at)
    (on_head (λ b. nests && nat_eq 40 b) (group_at expr at)
    (word_at nests expr at)))

abbrev pub then_blanks : Read Tree → Read Tree
then_blanks p = bind p (λ t. bind blanks_at (λ _. done t))

abbrev pub prefixed_at : ℕ → (Tree → Tree) → (ℕ → Read Tree) → ℕ → Read Tree
prefixed_at byte mk unary at = bind_at at (λ _. item (nat_eq byte)) (λ at2 _. bind (unary at2) (λ u. done (mk u)))

unfoldable pub inner_at : Bool → (ℕ → Read Tree) → (ℕ → Read Tree) → ℕ → Read Tree
inner_at nests unary expr at = on_head (λ b. nests && nat_eq 45 b) (prefixed_at 45 (Negated at) unary at)
    (on_head (λ b. nests && nat_eq 33 b) (prefixed_at 33 (Inverted at) unary at)
    (then_blanks (atom_at nests expr at)))

-- ---- levels of operators

abbrev pub is_product : ℕ → Bool
is_product b = nat_eq 42 b || (nat_eq 47 b || nat_eq 37 b)

abbrev pub product_operator_at : ℕ → Read Operator
product_operator_at at = bind (item is_product) (λ b. done (cond (nat_eq 42 b) Multiply (cond (nat_eq 47 b) Divide Remainder)))

abbrev pub is_sum : ℕ → Bool
is_sum b = nat_eq 43 b || nat_eq 45 b

abbrev pub sum_operator_at : ℕ → Read Operator
sum_operator_at at = bind (item is_sum) (λ b. done (cond (nat_eq 43 b) Add Subtract))

abbrev pub is_compare : ℕ → Bool
is_compare b = nat_eq 61 b || (nat_eq 33 b || (nat_eq 60 b || nat_eq 62 b))

-- "=" behind the first byte: wanted, or the longer one of two operators
abbrev pub equals_at : Operator → Read Operator
equals_at o = bind (item (nat_eq 61)) (λ _. done o)

unfoldable pub compare_operator_at : ℕ → Read Operator
compare_operator_at at = bind (item is_compare) (λ b.
    cond (nat_eq 61 b) (equals_at Equal) (cond (nat_eq 33 b) (equals_at NotEqual)
    (cond (nat_eq 60 b) (on_head (nat_eq 61) (equals_at LessOrEqual) (done Less)) (on_head (nat_eq 61) (equals_at GreaterOrEqual) (done Greater)))))

abbrev pub and_operator_at : ℕ → Read Operator
and_operator_at at = bind (item (nat_eq 38)) (λ _. bind (item (nat_eq 38)) (λ _. done And))

abbrev pub or_operator_at : ℕ → Read Operator
or_operator_at at = bind (item (nat_eq 124)) (λ _. bind (item (nat_eq 124)) (λ _. done Or))

abbrev pub product_at : (ℕ → Read Tree) → ℕ → ℕ → Read Tree
product_at unary turns = chain_at is_product product_operator_at unary Binary turns

abbrev pub sum_at : (ℕ → Read Tree) → ℕ → ℕ → Read Tree
sum_at unary turns = chain_at is_sum sum_operator_at (product_at unary turns) Binary turns

-- behind the sum x: an operator and another sum, if one comes
abbrev pub compared_with : (ℕ → Read Tree) → ℕ → ℕ → Tree → Read Tree
compared_with sum turns at x = on_head is_compare (bind_at at compare_operator_at (λ at2 o. bind_at at2 sum (λ at3 y. done (Binary at o x y)))) (done x)

abbrev pub compared_at : (ℕ → Read Tree) → ℕ → ℕ → Read Tree
compared_at unary turns at = bind_at at (sum_at unary turns) (compared_with (sum_at unary turns) turns)

abbrev pub conjunction_at : (ℕ → Read Tree) → ℕ → ℕ → Read Tree
conjunction_at unary turns = chain_at (nat_eq 38) and_operator_at (compared_at unary turns) Binary turns

abbrev pub expression_at : (ℕ → Read Tree) → ℕ → ℕ → Read Tree
expression_at unary turns = chain_at (nat_eq 124) or_operator_at (conjunction_at unary turns) Binary turns

-- a unary, given whether something may nest in it, and then which unaries
abbrev pub unary_of_at : Bool → (ℕ → Read Tree) → ℕ → ℕ → Read Tree
unary_of_at nests unary turns at = bind_at at (λ _. blanks_at) (λ at2 _. inner_at nests unary (expression_at unary turns) at2)

abbrev pub nothing_at : ℕ → Read Tree
nothing_at at s = (None, s)

abbrev pub unary_at : ℕ → ℕ → ℕ → Read Tree
unary_at turns zero = unary_of_at false nothing_at turns
unary_at turns (suc depth) = unary_of_at true (unary_at turns depth) turns

abbrev pub expr_at : ℕ → ℕ → ℕ → Read Tree
expr_at depth turns = expression_at (unary_at turns depth) turns

-- ---- statements

-- behind the first unary x: the rest of an expression
abbrev pub expression_from : (ℕ → Read Tree) → ℕ → ℕ → Tree → Read Tree
expression_from unary turns at x = bind_at at (λ at1. more_at is_product product_operator_at unary Binary turns at1 x) (λ at2 y.
    bind_at at2 (λ at3. more_at is_sum sum_operator_at (product_at unary turns) Binary turns at3 y) (λ at4 z.
    bind_at at4 (λ at5. compared_with (sum_at unary turns) turns at5 z) (λ at6 v.
    bind_at at6 (λ at7. more_at (nat_eq 38) and_operator_at (compared_at unary turns) Binary turns at7 v) (λ at8 w.
    more_at (nat_eq 124) or_operator_at (conjunction_at unary turns) Binary turns at8 w))))

-- behind the left side x and "==": the rest of an expression
abbrev pub equal_from : (ℕ → Read Tree) → ℕ → ℕ → ℕ → Tree → Read Tree
equal_from unary turns place at x = bind_at at (sum_at unary turns) (λ at2 y.
    bind_at at2 (λ at3. more_at (nat_eq 38) and_operator_at (compared_at unary turns) Binary turns at3 (Binary place Equal x y)) (λ at4 w.
    more_at (nat_eq 124) or_operator_at (conjunction_at unary turns) Binary turns at4 w))

-- behind a name alone: "=" begins an assignment, or with another "=" a comparison
abbrev pub after_name : (ℕ → Read Tree) → ℕ → ℕ → List ℕ → ℕ → Read Tree
after_name unary turns place name at = on_head (nat_eq 61)
    (bind_at at (λ _. item (nat_eq 61)) (λ at2 _. on_head (nat_eq 61)
    (bind_at at2 (λ _. item (nat_eq 61)) (λ at3 _. equal_from unary turns at at3 (Name place name)))
    (bind (expression_at unary turns at2) (λ x. done (Assigned place name x)))))
    (expression_from unary turns at (Name place name))

abbrev pub after_word : (ℕ → Read Tree) → ℕ → ℕ → Tree → Read Tree
after_word unary turns at (Name place name) = after_name unary turns place name at
after_word unary turns at t = expression_from unary turns at t

unfoldable pub statement_at : ℕ → ℕ → ℕ → Read Tree
statement_at depth turns at = bind_at at (λ _. blanks_at) (λ at2 _. on_head is_letter
    (bind_at at2 (λ at3. then_blanks (word_at true (expr_at depth turns) at3)) (after_word (unary_at turns (suc depth)) turns))
    (expr_at (suc depth) turns at2))

-- ---- options; depth is one less than how many may nest

-- "(", an expression and ")"
abbrev pub bracketed_at : {A : Type 0} → ℕ → ℕ → (Tree → A) → ℕ → Read A
bracketed_at depth turns mk at = argument_at (expr_at (suc depth) turns) 40 at (λ at2 x. closed (mk x))

abbrev pub letter_at : {A : Type 0} → ℕ → A → Read A
letter_at byte x = bind (item (nat_eq byte)) (λ _. done x)

unfoldable pub address_word_at : ℕ → ℕ → ℕ → Read Address
address_word_at depth turns at = on_head (nat_eq 114) (letter_at 114 (Receivers at))
    (on_head (nat_eq 104) (letter_at 104 (Hidden at))
    (on_head (nat_eq 115) (letter_at 115 (Runner at))
    (on_head (nat_eq 103) (bind (item (nat_eq 103)) (λ _. on_head (nat_eq 115) (letter_at 115 (Both at)) (done (Master at))))
    (bind_at at (λ _. item (nat_eq 119)) (λ at2 _. bracketed_at depth turns (Whisper at) at2)))))

-- so many bytes one after the other
abbrev pub bytes_at : List ℕ → Read (List ℕ)
bytes_at [] = done []
bytes_at (b ∷ s) = bind (item (nat_eq b)) (λ _. bytes_at s)

unfoldable pub branch_word_at : ℕ → ℕ → ℕ → Read Branch
branch_word_at depth turns at = on_head (nat_eq 105)
    (bind_at at (λ _. bytes_at (105 ∷ (102 ∷ []))) (λ at2 _. bracketed_at depth turns (If at) at2))
    (bind_at at (λ _. bytes_at (99 ∷ (111 ∷ (117 ∷ (110 ∷ (116 ∷ [])))))) (λ at2 _. bracketed_at depth turns (Count at) at2))

-- with blanks on both sides
abbrev pub between_at : {A : Type 0} → (ℕ → Read A) → ℕ → Read A
between_at word at = bind_at at (λ _. blanks_at) (λ at2 _. bind (word at2) (λ x. bind blanks_at (λ _. done x)))

abbrev pub is_branch_letter : ℕ → Bool
is_branch_letter b = nat_eq 105 b || nat_eq 99 b

abbrev pub first_word_at : ℕ → ℕ → ℕ → Read FirstOption
first_word_at depth turns at = on_head is_branch_letter (bind (branch_word_at depth turns at) (λ y. done (OnWhat y))) (bind (address_word_at depth turns at) (λ x. done (ForWhom x)))

-- an option of the other kind
abbrev pub second_option : ℕ → ℕ → FirstOption → ℕ → Read Options
second_option depth turns (ForWhom x) at = bind (between_at (branch_word_at depth turns) at) (λ y. done (AddressFirst x y))
second_option depth turns (OnWhat y) at = bind (between_at (address_word_at depth turns) at) (λ x. done (BranchFirst y x))

abbrev pub alone : FirstOption → Options
alone (ForWhom x) = Addressed x
alone (OnWhat y) = Branched y

unfoldable pub options_at : ℕ → ℕ → ℕ → Read Options
options_at depth turns at = bind_at at (between_at (first_word_at depth turns)) (λ at2 o. on_head (nat_eq 44) (bind_at at2 (λ _. item (nat_eq 44)) (λ at3 _. second_option depth turns o at3)) (done (alone o)))

-- ---- rolls and pieces

abbrev pub roll_end : ℕ → ℕ → ℕ → Options → ℕ → Tree → Read Piece
roll_end depth turns at o at5 x = on_head (λ b. has_if o && nat_eq 59 b)
    (bind_at at5 (λ _. item (nat_eq 59)) (λ at6 _. bind_at at6 (statement_at depth turns) (λ at7 y. letter_at 93 (Roll at o x (Some y)))))
    (letter_at 93 (Roll at o x None))

unfoldable pub roll_at : ℕ → ℕ → ℕ → Read Piece
roll_at depth turns at = bind_at at (λ _. item (nat_eq 91)) (λ at2 _. bind_at at2 (options_at depth turns) (λ at3 o. bind_at at3 (λ _. item (nat_eq 58)) (λ at4 _. bind_at at4 (statement_at depth turns) (roll_end depth turns at o))))

-- plain text up to a roll or the end; behind says that a backslash came last
abbrev pub plain_text : Bool → Read (List ℕ)
plain_text false [] = (Some [], [])
plain_text true [] = (None, [])
plain_text true (b ∷ s) = cond (is_bracket b) (carry (λ m. done (b ∷ m)) (plain_text false s).0 (plain_text false s).1) (None, b ∷ s)
plain_text false (b ∷ s) = cond (nat_eq 91 b) (Some [], b ∷ s) (cond (nat_eq 93 b) (None, b ∷ s) (cond (nat_eq 92 b) (plain_text true s) (carry (λ m. done (b ∷ m)) (plain_text false s).0 (plain_text false s).1)))

-- no byte is left
abbrev pub at_end : {A : Type 0} → A → Read A
at_end x [] = (Some x, [])
at_end x (b ∷ s) = (None, b ∷ s)

-- x at the text's end
abbrev pub unless_end : {A : Type 0} → A → Read A → Read A
unless_end x p [] = (Some x, [])
unless_end x p (b ∷ s) = p (b ∷ s)

abbrev pub pieces_at : ℕ → ℕ → ℕ → ℕ → Read (List Piece)
pieces_at depth room zero at s = (None, s)
pieces_at depth room (suc turns) at s = on_head (nat_eq 91)
    (bind_at at (roll_at depth room) (λ at2 p. bind (pieces_at depth room turns at2) (λ ps. done (p ∷ ps))))
    (unless_end [] (bind_at at (λ _. plain_text false) (λ at2 m. on_head (nat_eq 91)
    (bind_at at2 (roll_at depth room) (λ at3 p. bind (pieces_at depth room turns at3) (λ ps. done (Plain at m ∷ (p ∷ ps)))))
    (at_end (Plain at m ∷ []))))) s

unfoldable pub macro_at : ℕ → ℕ → Read (List Piece)
macro_at depth turns = pieces_at depth turns turns 0
