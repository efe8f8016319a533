-- What the code finds, as the trees that it stands for.
use Rattle.std.specs.Prelude.{◌≡◌, ◌⊎◌, ℕ, ◌<◌, ◌≤◌, ◌&&◌, false, List, [], ◌∷◌, ◌++◌, Option, Some, None, Result, Ok, Err, length, nat_eq}
use Rattle.std.specs.Global.{Vec}
use Rattle.reading.specs.Reading.{Read, on_head, item}
use Rattle.macro_parse.specs.declared.nodes.Node.{Node}
use Rattle.macro_parse.specs.declared.nodes.Node.TheVariants.{Call as CallNode}
use Rattle.macro_grammar.specs.declared.words.Function.{Function}
use Rattle.macro_parse.specs.declared.nodes.Arguments.{Arguments}
use Rattle.macro_parse.specs.declared.reader.Stop.{Stop}
use Rattle.macro_parse.specs.declared.reader.Stop.TheVariants.{Off, Memory}
use Rattle.macro_parse.specs.declared.expressions.Sign.{Sign}
use Rattle.macro_parse.specs.declared.expressions.Sign.TheVariants.{Minus, Not}
use Rattle.macro_grammar.specs.Grammar.{arity}
use Rattle.macro_grammar.specs.Readers.{inside_at, name_at, function_of, called_at, arguments_at, expr_at, bytes_at}
use Rattle.macro_parse.specs.Flat.{Kept, Puts, Finds, place}
use Rattle.macro_parse.specs.Levels.{nests}
use Rattle.macro_parse.specs.declared.atoms.Numeral.{Numeral}
use Rattle.macro_parse.specs.declared.atoms.Numeral.TheVariants.{Number as ANumber, Dice as SomeDice}
use Rattle.macro_grammar.specs.Tree.{Tree, Number, Dice, Quoted, Name}

abbrev pub numeral_tree : ℕ → Option Numeral → Option Tree
numeral_tree at None = None
numeral_tree at (Some (ANumber n)) = Some (Number at n)
numeral_tree at (Some (SomeDice g)) = Some (Dice at g)

-- the list in a vector, where there is one
abbrev pub bytes_of : Option (Vec ℕ) → Option (List ℕ)
bytes_of None = None
bytes_of (Some v) = Some v.items

abbrev pub quoted_tree : ℕ → Option (Vec ℕ) → Option Tree
quoted_tree at None = None
quoted_tree at (Some v) = Some (Quoted at v.items)

-- bytes in front of what was read
abbrev pub in_front : List ℕ → Option (List ℕ) → Option (List ℕ)
in_front xs None = None
in_front xs (Some ys) = Some (xs ++ ys)

abbrev pub with_bytes : List ℕ → Option (List ℕ) × List ℕ → Option (List ℕ) × List ℕ
with_bytes xs p = (in_front xs p.0, p.1)

-- one step inside quotes: it fails, or the quotes close, or a byte comes
abbrev pub InsideStep : List ℕ → Option (Option ℕ) → List ℕ → Type 0
InsideStep s None rest = inside_at false s ≡ (None, rest)
InsideStep s (Some None) rest = inside_at false s ≡ (Some [], rest)
InsideStep s (Some (Some b)) rest = inside_at false s ≡ with_bytes (b ∷ []) (inside_at false rest)

-- the name that was found is the one that is read
abbrev pub FindsName : Result (Vec ℕ) Stop → List ℕ → List ℕ → Type 0
FindsName (Ok v) s rest = name_at s ≡ (Some v.items, rest)
FindsName (Err Off) s rest = name_at s ≡ (None, rest)
FindsName (Err Memory) s rest = Unit {0}

-- what stands before a unary, where something may nest
abbrev pub Prefixes : ℕ → List ℕ → Option Sign → List ℕ → Type 0
Prefixes depth s None rest = (rest ≡ s) × ((p q r : Read Tree) → on_head (λ b. nests depth && nat_eq 45 b) p (on_head (λ b. nests depth && nat_eq 33 b) q r) s ≡ r s)
Prefixes depth s (Some Minus) rest = (0 < depth) × (s ≡ 45 ∷ rest)
Prefixes depth s (Some Not) rest = (0 < depth) × (s ≡ 33 ∷ rest)

-- an expression is found behind the separator, or there is no separator
abbrev pub Argues : ℕ → ℕ → ℕ → List Node → List Node → Result ℕ Stop → List ℕ → List ℕ → Type 0
Argues separator depth end old new result s rest =
    ((t : List ℕ) × (s ≡ separator ∷ t) × (length rest ≤ length t) × Finds (Puts old new) (λ turns. expr_at depth turns (place end t)) result t rest)
    ⊎ ((result ≡ Err Off) × (item (nat_eq separator) s ≡ (None, rest)))

-- a name is followed by the arguments of its function, or is no call
abbrev pub Calls : ℕ → List ℕ → Option Function → List ℕ → Type 0
Calls depth name None s = (expr : ℕ → Read Tree) (at at2 : ℕ) → called_at (nests depth) expr at at2 name (function_of name) s ≡ (Some (Name at name), s)
Calls depth name (Some f) s = (0 < arity f → 0 < depth) × ((expr : ℕ → Read Tree) (at at2 : ℕ) → called_at (nests depth) expr at at2 name (function_of name) s ≡ arguments_at expr at f at2 (arity f) s)

-- a call is kept behind its closing parenthesis
abbrev pub Closes : ℕ → Function → Arguments → List Node → List Node → Result ℕ Stop → List ℕ → List ℕ → Type 0
Closes at f arguments old new (Ok i) s rest = (s ≡ 41 ∷ rest) × Kept old new i (CallNode at f arguments)
Closes at f arguments old new (Err Off) s rest = item (nat_eq 41) s ≡ (None, rest)
Closes at f arguments old new (Err Memory) s rest = Unit {0}

-- the wanted byte came next and was taken
abbrev pub Expects : {U : Type 0} → ℕ → Result U Stop → List ℕ → List ℕ → Type 0
Expects wanted (Ok u) s rest = s ≡ wanted ∷ rest
Expects wanted (Err Off) s rest = item (nat_eq wanted) s ≡ (None, rest)
Expects wanted (Err Memory) s rest = ⊥

-- the bytes of a word came next and were taken
abbrev pub Spells : {U : Type 0} → List ℕ → Result U Stop → List ℕ → List ℕ → Type 0
Spells word (Ok u) s rest = bytes_at word s ≡ (Some [], rest)
Spells word (Err Off) s rest = bytes_at word s ≡ (None, rest)
Spells word (Err Memory) s rest = ⊥
