-- The grammar of macros, apart from any reader:
--
--     macro  = *( char / "\[" / "\]" / "\\" / roll )        char: any character but [ ] \
--     roll   = "[" opts ":" body "]"
--     opts   = addr / branch / addr "," branch / branch "," addr
--     addr   = ws ( "r" / "h" / "g" / "s" / "gs" / "w(" expr ")" ) ws
--     branch = ws ( "if(" expr ")" / "count(" expr ")" ) ws
--     body   = stmt [ ";" stmt ]                the second stmt only where opts has if
--     stmt   = ws name ws "=" expr / expr
--     expr   = and *( "||" and )
--     and    = cmp *( "&&" cmp )
--     cmp    = sum [ ( "==" / "!=" / "<=" / ">=" / "<" / ">" ) sum ]
--     sum    = prod *( ("+" / "-") prod )
--     prod   = unary *( ("*" / "/" / "%") unary )
--     unary  = ws ( ("-" / "!") unary / atom ws )
--     atom   = number / dice1 / quoted / name / call / "(" expr ")"
--     number = "0" / nonzero *17DIGIT
--     dice1  = a group of dice with its count
--     quoted = DQUOTE *( any character but DQUOTE and \ / "\" DQUOTE / "\\" ) DQUOTE
--     name   = a-z *23( a-z / 0-9 / "_" )
--     call   = a function of the table with its number of arguments, "(" arguments between commas ")"
--     ws     = any number of spaces
use Rattle.std.specs.Prelude.{◌≡◌, ◌⊎◌, ℕ, zero, suc, ◌+◌, ◌≤◌, Bool, true, false, ◌||◌, List, [], ◌∷◌, ◌++◌, length, nat_eq, Some, None}
use Rattle.reading.specs.Number.{IsDigit, IsNumber}
use Rattle.reading.specs.Placed.{Grammar, Chain}
use Rattle.dice_parse.specs.Grammar.{GroupFits}
use Rattle.dice_parse.specs.Groups.{IsCounted}
use Rattle.macro_grammar.specs.declared.words.Operator.{Operator}
use Rattle.macro_grammar.specs.declared.words.Operator.TheVariants.{Or, And, Equal, NotEqual, LessOrEqual, GreaterOrEqual, Less, Greater, Add, Subtract, Multiply, Divide, Remainder}
use Rattle.macro_grammar.specs.declared.words.Function.{Function}
use Rattle.macro_grammar.specs.declared.words.Function.TheVariants.{Prop, Own, Secret, Has, SetProp, SetOwn, Arg, Argc, Min, Max, Abs, Len, Num}
use Rattle.macro_grammar.specs.Tree.{Tree, Number, Dice, Quoted, Name, Call0, Call1, Call2, Call3, Negated, Inverted, Binary, Assigned, Address, Receivers, Hidden, Master, Runner, Both, Whisper, Branch, If, Count, Options, Addressed, Branched, AddressFirst, BranchFirst, Piece, Plain, Roll}

abbrev pub AreBlanks : List ℕ → Type 0
AreBlanks [] = Unit {0}
AreBlanks (b ∷ s) = (b ≡ 32) × AreBlanks s

abbrev pub IsLetter : ℕ → Type 0
IsLetter b = (97 ≤ b) × (b ≤ 122)

abbrev pub AreNameBytes : List ℕ → Type 0
AreNameBytes [] = Unit {0}
AreNameBytes (b ∷ s) = (IsLetter b ⊎ (IsDigit b ⊎ (b ≡ 95))) × AreNameBytes s

abbrev pub IsName : List ℕ → Type 0
IsName [] = ⊥
IsName (b ∷ s) = IsLetter b × AreNameBytes s × (length s ≤ 23)

abbrev pub function_name : Function → List ℕ
function_name Prop = 112 ∷ (114 ∷ (111 ∷ (112 ∷ [])))
function_name Own = 111 ∷ (119 ∷ (110 ∷ []))
function_name Secret = 115 ∷ (101 ∷ (99 ∷ (114 ∷ (101 ∷ (116 ∷ [])))))
function_name Has = 104 ∷ (97 ∷ (115 ∷ []))
function_name SetProp = 115 ∷ (101 ∷ (116 ∷ (112 ∷ (114 ∷ (111 ∷ (112 ∷ []))))))
function_name SetOwn = 115 ∷ (101 ∷ (116 ∷ (111 ∷ (119 ∷ (110 ∷ [])))))
function_name Arg = 97 ∷ (114 ∷ (103 ∷ []))
function_name Argc = 97 ∷ (114 ∷ (103 ∷ (99 ∷ [])))
function_name Min = 109 ∷ (105 ∷ (110 ∷ []))
function_name Max = 109 ∷ (97 ∷ (120 ∷ []))
function_name Abs = 97 ∷ (98 ∷ (115 ∷ []))
function_name Len = 108 ∷ (101 ∷ (110 ∷ []))
function_name Num = 110 ∷ (117 ∷ (109 ∷ []))

-- how many arguments a function takes
abbrev pub arity : Function → ℕ
arity Prop = 2
arity Own = 2
arity Secret = 2
arity Has = 2
arity SetProp = 3
arity SetOwn = 3
arity Arg = 1
arity Argc = 0
arity Min = 2
arity Max = 2
arity Abs = 1
arity Len = 1
arity Num = 1

abbrev pub operator_text : Operator → List ℕ
operator_text Or = 124 ∷ (124 ∷ [])
operator_text And = 38 ∷ (38 ∷ [])
operator_text Equal = 61 ∷ (61 ∷ [])
operator_text NotEqual = 33 ∷ (61 ∷ [])
operator_text LessOrEqual = 60 ∷ (61 ∷ [])
operator_text GreaterOrEqual = 62 ∷ (61 ∷ [])
operator_text Less = 60 ∷ []
operator_text Greater = 62 ∷ []
operator_text Add = 43 ∷ []
operator_text Subtract = 45 ∷ []
operator_text Multiply = 42 ∷ []
operator_text Divide = 47 ∷ []
operator_text Remainder = 37 ∷ []

-- ---- operators by level

abbrev pub OrOperator : Grammar Operator
OrOperator at s o = (s ≡ operator_text o) × (o ≡ Or)

abbrev pub AndOperator : Grammar Operator
AndOperator at s o = (s ≡ operator_text o) × (o ≡ And)

abbrev pub IsComparison : Operator → Type 0
IsComparison o = (o ≡ Equal) ⊎ ((o ≡ NotEqual) ⊎ ((o ≡ LessOrEqual) ⊎ ((o ≡ GreaterOrEqual) ⊎ ((o ≡ Less) ⊎ (o ≡ Greater)))))

abbrev pub CompareOperator : Grammar Operator
CompareOperator at s o = (s ≡ operator_text o) × IsComparison o

abbrev pub SumOperator : Grammar Operator
SumOperator at s o = (s ≡ operator_text o) × ((o ≡ Add) ⊎ (o ≡ Subtract))

abbrev pub ProductOperator : Grammar Operator
ProductOperator at s o = (s ≡ operator_text o) × ((o ≡ Multiply) ⊎ ((o ≡ Divide) ⊎ (o ≡ Remainder)))

-- ---- expressions, given what a unary is

abbrev pub IsProduct : Grammar Tree → Grammar Tree
IsProduct Unary = Chain ProductOperator Unary Binary

abbrev pub IsSum : Grammar Tree → Grammar Tree
IsSum Unary = Chain SumOperator (IsProduct Unary) Binary

-- a sum, or two that are compared
abbrev pub IsCompared : Grammar Tree → Grammar Tree
IsCompared Unary at s t = IsSum Unary at s t
    ⊎ ((a : List ℕ) × (b : List ℕ) × (c : List ℕ) × (x : Tree) × (o : Operator) × (y : Tree) × (s ≡ a ++ (b ++ c)) × (t ≡ Binary (at + length a) o x y)
    × IsSum Unary at a x × CompareOperator (at + length a) b o × IsSum Unary ((at + length a) + length b) c y)

abbrev pub IsConjunction : Grammar Tree → Grammar Tree
IsConjunction Unary = Chain AndOperator (IsCompared Unary) Binary

abbrev pub IsExpression : Grammar Tree → Grammar Tree
IsExpression Unary = Chain OrOperator (IsConjunction Unary) Binary

-- ---- atoms

-- a text with its escapes: a special byte stands behind a backslash, another one stands for itself
abbrev pub IsEscaped : (ℕ → Bool) → List ℕ → List ℕ → Type 0
IsEscaped special s [] = s ≡ []
IsEscaped special s (c ∷ m) = (r : List ℕ) × (((special c ≡ false) × (s ≡ c ∷ r)) ⊎ ((special c ≡ true) × (s ≡ 92 ∷ (c ∷ r)))) × IsEscaped special r m

-- the double quote and the backslash
abbrev pub is_quote : ℕ → Bool
is_quote b = nat_eq 34 b || nat_eq 92 b

-- the brackets and the backslash
abbrev pub is_bracket : ℕ → Bool
is_bracket b = nat_eq 91 b || (nat_eq 93 b || nat_eq 92 b)

abbrev pub IsQuoted : List ℕ → List ℕ → Type 0
IsQuoted s m = (a : List ℕ) × (s ≡ 34 ∷ (a ++ (34 ∷ []))) × IsEscaped is_quote a m

-- the atoms that nest nothing
abbrev pub IsLeaf : Grammar Tree
IsLeaf at s (Number p n) = (p ≡ at) × IsNumber 17 s n
IsLeaf at s (Dice p g) = (p ≡ at) × IsCounted s g
IsLeaf at s (Quoted p m) = (p ≡ at) × IsQuoted s m
IsLeaf at s (Name p name) = (p ≡ at) × (s ≡ name) × IsName name
IsLeaf at s t = ⊥

-- the place behind a function's name and its bracket
abbrev pub argument_place : ℕ → Function → ℕ
argument_place at f = (at + length (function_name f)) + 1

-- calls; with arguments only where something may nest
abbrev pub IsCall : Bool → Grammar Tree → Grammar Tree
IsCall nests Expr at s (Call0 p f) = (p ≡ at) × (arity f ≡ 0) × (s ≡ function_name f ++ (40 ∷ (41 ∷ [])))
IsCall nests Expr at s (Call1 p f x) = (nests ≡ true) × (p ≡ at) × (arity f ≡ 1) × (a : List ℕ) × (s ≡ function_name f ++ (40 ∷ (a ++ (41 ∷ []))))
    × Expr (argument_place at f) a x
IsCall nests Expr at s (Call2 p f x y) = (nests ≡ true) × (p ≡ at) × (arity f ≡ 2) × (a : List ℕ) × (b : List ℕ) × (s ≡ function_name f ++ (40 ∷ (a ++ (44 ∷ (b ++ (41 ∷ []))))))
    × Expr (argument_place at f) a x × Expr ((argument_place at f + length a) + 1) b y
IsCall nests Expr at s (Call3 p f x y z) = (nests ≡ true) × (p ≡ at) × (arity f ≡ 3) × (a : List ℕ) × (b : List ℕ) × (c : List ℕ)
    × (s ≡ function_name f ++ (40 ∷ (a ++ (44 ∷ (b ++ (44 ∷ (c ++ (41 ∷ []))))))))
    × Expr (argument_place at f) a x × Expr ((argument_place at f + length a) + 1) b y × Expr ((((argument_place at f + length a) + 1) + length b) + 1) c z
IsCall nests Expr at s t = ⊥

abbrev pub IsGrouped : Bool → Grammar Tree → Grammar Tree
IsGrouped nests Expr at s t = (nests ≡ true) × (a : List ℕ) × (s ≡ 40 ∷ (a ++ (41 ∷ []))) × Expr (at + 1) a t

abbrev pub IsAtom : Bool → Grammar Tree → Grammar Tree
IsAtom nests Expr at s t = IsLeaf at s t ⊎ (IsCall nests Expr at s t ⊎ IsGrouped nests Expr at s t)

-- "-" or "!" before a unary
abbrev pub IsPrefixed : Bool → Grammar Tree → Grammar Tree
IsPrefixed nests Unary at s t = (nests ≡ true) × (a : List ℕ) × (u : Tree) × (((s ≡ 45 ∷ a) × (t ≡ Negated at u)) ⊎ ((s ≡ 33 ∷ a) × (t ≡ Inverted at u))) × Unary (at + 1) a u

abbrev pub IsAtomBlanks : Bool → Grammar Tree → Grammar Tree
IsAtomBlanks nests Expr at s t = (a : List ℕ) × (v : List ℕ) × (s ≡ a ++ v) × AreBlanks v × IsAtom nests Expr at a t

-- a unary, given whether something may nest in it, and then which unaries
abbrev pub IsUnaryOf : Bool → Grammar Tree → Grammar Tree
IsUnaryOf nests Unary at s t = (w : List ℕ) × (b : List ℕ) × (s ≡ w ++ b) × AreBlanks w
    × (IsPrefixed nests Unary (at + length w) b t ⊎ IsAtomBlanks nests (IsExpression Unary) (at + length w) b t)

abbrev pub IsNothing : Grammar Tree
IsNothing at s t = ⊥

-- a unary in which so many may still nest
abbrev pub IsUnary : ℕ → Grammar Tree
IsUnary zero = IsUnaryOf false IsNothing
IsUnary (suc depth) = IsUnaryOf true (IsUnary depth)

abbrev pub IsExpr : ℕ → Grammar Tree
IsExpr depth = IsExpression (IsUnary depth)

-- ---- statements, options, rolls; depth is how many may nest

abbrev pub IsAssignment : ℕ → Grammar Tree
IsAssignment depth at s t = (w : List ℕ) × (name : List ℕ) × (v : List ℕ) × (a : List ℕ) × (x : Tree) × (s ≡ w ++ (name ++ (v ++ (61 ∷ a)))) × (t ≡ Assigned (at + length w) name x)
    × AreBlanks w × IsName name × AreBlanks v × IsExpr depth ((((at + length w) + length name) + length v) + 1) a x

abbrev pub IsStatement : ℕ → Grammar Tree
IsStatement depth at s t = IsAssignment depth at s t ⊎ IsExpr depth at s t

abbrev pub IsAddressWord : ℕ → Grammar Address
IsAddressWord depth at s (Receivers p) = (p ≡ at) × (s ≡ 114 ∷ [])
IsAddressWord depth at s (Hidden p) = (p ≡ at) × (s ≡ 104 ∷ [])
IsAddressWord depth at s (Master p) = (p ≡ at) × (s ≡ 103 ∷ [])
IsAddressWord depth at s (Runner p) = (p ≡ at) × (s ≡ 115 ∷ [])
IsAddressWord depth at s (Both p) = (p ≡ at) × (s ≡ 103 ∷ (115 ∷ []))
IsAddressWord depth at s (Whisper p x) = (p ≡ at) × (a : List ℕ) × (s ≡ 119 ∷ (40 ∷ (a ++ (41 ∷ [])))) × IsExpr depth (at + 2) a x

abbrev pub IsBranchWord : ℕ → Grammar Branch
IsBranchWord depth at s (If p x) = (p ≡ at) × (a : List ℕ) × (s ≡ 105 ∷ (102 ∷ (40 ∷ (a ++ (41 ∷ []))))) × IsExpr depth (at + 3) a x
IsBranchWord depth at s (Count p x) = (p ≡ at) × (a : List ℕ) × (s ≡ 99 ∷ (111 ∷ (117 ∷ (110 ∷ (116 ∷ (40 ∷ (a ++ (41 ∷ [])))))))) × IsExpr depth (at + 6) a x

-- with blanks on both sides
abbrev pub BetweenBlanks : {A : Type 0} → Grammar A → Grammar A
BetweenBlanks Word at s x = (w : List ℕ) × (a : List ℕ) × (v : List ℕ) × (s ≡ w ++ (a ++ v)) × AreBlanks w × AreBlanks v × Word (at + length w) a x

abbrev pub IsAddress : ℕ → Grammar Address
IsAddress depth = BetweenBlanks (IsAddressWord depth)

abbrev pub IsBranch : ℕ → Grammar Branch
IsBranch depth = BetweenBlanks (IsBranchWord depth)

abbrev pub AreOptions : ℕ → Grammar Options
AreOptions depth at s (Addressed x) = IsAddress depth at s x
AreOptions depth at s (Branched y) = IsBranch depth at s y
AreOptions depth at s (AddressFirst x y) = (a : List ℕ) × (b : List ℕ) × (s ≡ a ++ (44 ∷ b)) × IsAddress depth at a x × IsBranch depth ((at + length a) + 1) b y
AreOptions depth at s (BranchFirst y x) = (a : List ℕ) × (b : List ℕ) × (s ≡ a ++ (44 ∷ b)) × IsBranch depth at a y × IsAddress depth ((at + length a) + 1) b x

-- whether a second statement may stand
abbrev pub is_if : Branch → Bool
is_if (If p x) = true
is_if (Count p x) = false

abbrev pub has_if : Options → Bool
has_if (Addressed x) = false
has_if (Branched y) = is_if y
has_if (AddressFirst x y) = is_if y
has_if (BranchFirst y x) = is_if y

abbrev pub IsRoll : ℕ → Grammar Piece
IsRoll depth at s (Roll p o x None) = (p ≡ at) × (a : List ℕ) × (b : List ℕ) × (s ≡ 91 ∷ (a ++ (58 ∷ (b ++ (93 ∷ []))))) × AreOptions depth (at + 1) a o
    × IsStatement depth (((at + 1) + length a) + 1) b x
IsRoll depth at s (Roll p o x (Some y)) = (has_if o ≡ true) × (p ≡ at) × (a : List ℕ) × (b : List ℕ) × (c : List ℕ) × (s ≡ 91 ∷ (a ++ (58 ∷ (b ++ (59 ∷ (c ++ (93 ∷ []))))))) × AreOptions depth (at + 1) a o
    × IsStatement depth (((at + 1) + length a) + 1) b x × IsStatement depth (((((at + 1) + length a) + 1) + length b) + 1) c y
IsRoll depth at s (Plain p m) = ⊥

-- a run of plain text that isn't empty
abbrev pub IsPlain : Grammar Piece
IsPlain at s (Plain p []) = ⊥
IsPlain at s (Plain p (c ∷ m)) = (p ≡ at) × IsEscaped is_bracket s (c ∷ m)
IsPlain at s (Roll p o x y) = ⊥

-- a run of plain text is the longest that there is: no run stands behind it
abbrev pub NoPlainFirst : List Piece → Type 0
NoPlainFirst [] = Unit {0}
NoPlainFirst (Plain p m ∷ ps) = ⊥
NoPlainFirst (Roll p o x y ∷ ps) = Unit {0}

abbrev pub Follows : Piece → List Piece → Type 0
Follows (Plain p m) ps = NoPlainFirst ps
Follows (Roll p o x y) ps = Unit {0}

abbrev pub IsMacro : ℕ → ℕ → List ℕ → List Piece → Type 0
IsMacro depth at s [] = s ≡ []
IsMacro depth at s (p ∷ ps) = (a : List ℕ) × (b : List ℕ) × (s ≡ a ++ b) × (IsPlain at a p ⊎ IsRoll depth at a p) × Follows p ps × IsMacro depth (at + length a) b ps

-- ---- limits

-- all dice of a tree are within their limits
abbrev pub DiceFit : Tree → Type 0
DiceFit (Number p n) = Unit {0}
DiceFit (Dice p g) = GroupFits g
DiceFit (Quoted p m) = Unit {0}
DiceFit (Name p name) = Unit {0}
DiceFit (Call0 p f) = Unit {0}
DiceFit (Call1 p f x) = DiceFit x
DiceFit (Call2 p f x y) = DiceFit x × DiceFit y
DiceFit (Call3 p f x y z) = DiceFit x × DiceFit y × DiceFit z
DiceFit (Negated p t) = DiceFit t
DiceFit (Inverted p t) = DiceFit t
DiceFit (Binary p o l r) = DiceFit l × DiceFit r
DiceFit (Assigned p name t) = DiceFit t
