-- The levels of an expression, from the weakest.
use Rattle.std.specs.Prelude.{◌≡◌, ℕ, zero, suc, ◌<◌, Bool, true, false, List, [], ◌∷◌, length, Option, Some, None, Result, Ok, Err, nat_eq}
use Rattle.reading.specs.Reading.{Read, done, on_head}
use Rattle.reading.specs.Placed.{bind_at, more_at, chain_at}
use Rattle.macro_grammar.specs.declared.words.Operator.{Operator}
use Rattle.macro_parse.specs.declared.levels.Level.{Level}
use Rattle.macro_parse.specs.declared.levels.Level.TheVariants.{Or, And, Compare, Sum, Product}
use Rattle.macro_parse.specs.declared.levels.Next.{Next}
use Rattle.macro_parse.specs.declared.levels.Next.TheVariants.{Nothing, Fails, Found}
use Rattle.macro_parse.specs.declared.nodes.Node.{Node}
use Rattle.macro_parse.specs.declared.reader.Stop.{Stop}
use Rattle.macro_parse.specs.declared.reader.Stop.TheVariants.{Off, Memory}
use Rattle.macro_parse.specs.Flat.{Grows, place}
use Rattle.macro_grammar.specs.Tree.{Tree, Binary}
use Rattle.macro_grammar.specs.Readers.{is_product, product_operator_at, is_sum, sum_operator_at, is_compare, compare_operator_at, and_operator_at, or_operator_at, product_at, sum_at, compared_at, conjunction_at, compared_with, then_blanks, word_at, expression_at, after_word, nothing_at, unary_at}

-- the first byte of an operator of the level
abbrev pub test_of : Level → ℕ → Bool
test_of Or = nat_eq 124
test_of And = nat_eq 38
test_of Compare = is_compare
test_of Sum = is_sum
test_of Product = is_product

abbrev pub operator_of : Level → ℕ → Read Operator
operator_of Or = or_operator_at
operator_of And = and_operator_at
operator_of Compare = compare_operator_at
operator_of Sum = sum_operator_at
operator_of Product = product_operator_at

-- what stands between the operators of the level
abbrev pub operand_of : Level → (ℕ → Read Tree) → ℕ → ℕ → Read Tree
operand_of Or unary turns = conjunction_at unary turns
operand_of And unary turns = compared_at unary turns
operand_of Compare unary turns = sum_at unary turns
operand_of Sum unary turns = product_at unary turns
operand_of Product unary turns = unary

-- a chain of the level: for Or an expression
abbrev pub level_at : Level → (ℕ → Read Tree) → ℕ → ℕ → Read Tree
level_at level unary turns = chain_at (test_of level) (operator_of level) (operand_of level unary turns) Binary turns

-- the chain of the level behind its left side x
abbrev pub more_of : Level → (ℕ → Read Tree) → ℕ → ℕ → Tree → Read Tree
more_of level unary turns at x = more_at (test_of level) (operator_of level) (operand_of level unary turns) Binary turns at x

-- one operator of the level behind x, its operand, and then k; x alone where no operator comes
abbrev pub once_at : Level → (ℕ → Read Tree) → ℕ → (ℕ → Tree → Read Tree) → ℕ → Tree → Read Tree
once_at level unary turns k at x = on_head (test_of level) (bind_at at (operator_of level) (λ at2 o. bind_at at2 (operand_of level unary turns) (λ at3 y. k at3 (Binary at o x y)))) (done x)

-- what one operator with its operand makes of x, if one comes, in a text of so many bytes
abbrev pub Steps : Level → ℕ → ℕ → Tree → List Node → List Node → Result (Option ℕ) Stop → List ℕ → List ℕ → Type 0
Steps level depth end x old new (Ok None) s rest = (rest ≡ s) × (new ≡ old) × ((turns : ℕ) (k : ℕ → Tree → Read Tree) → once_at level (unary_at turns depth) turns k (place end s) x s ≡ (Some x, s))
Steps level depth end x old new (Ok (Some i)) s rest = (t : Tree) × Grows x old new i t × (length rest < length s)
    × ((turns : ℕ) (k : ℕ → Tree → Read Tree) → length s < turns → once_at level (unary_at turns depth) turns k (place end s) x s ≡ k (place end rest) t rest)
Steps level depth end x old new (Err Off) s rest = (turns : ℕ) (k : ℕ → Tree → Read Tree) → length s < turns → once_at level (unary_at turns depth) turns k (place end s) x s ≡ (None, rest)
Steps level depth end x old new (Err Memory) s rest = Unit {0}

-- whether something may nest where so many may, and the unaries that do
abbrev pub nests : ℕ → Bool
nests zero = false
nests (suc depth) = true

abbrev pub nested_at : ℕ → ℕ → ℕ → Read Tree
nested_at turns zero = nothing_at
nested_at turns (suc depth) = unary_at turns depth

-- what comes next: no operator of the level; the front of one that fails; or one, which is taken
abbrev pub IsNext : Level → List ℕ → Next → List ℕ → Type 0
IsNext level s Nothing rest = (rest ≡ s) × ((p q : Read Tree) → on_head (test_of level) p q s ≡ q s)
IsNext level s Fails rest = ((at : ℕ) → operator_of level at s ≡ (None, rest)) × ((p q : Read Tree) → on_head (test_of level) p q s ≡ p s)
IsNext level s (Found o) rest = ((at : ℕ) → operator_of level at s ≡ (Some o, rest)) × ((p q : Read Tree) → on_head (test_of level) p q s ≡ p s) × (length rest < length s)

-- ---- statements

-- the rest of an expression behind its first comparison
abbrev pub ands_from : (ℕ → Read Tree) → ℕ → ℕ → Tree → Read Tree
ands_from unary turns at x = bind_at at (λ at2. more_of And unary turns at2 x) (λ at3 y. more_of Or unary turns at3 y)

-- behind its first sum
abbrev pub compares_from : (ℕ → Read Tree) → ℕ → ℕ → Tree → Read Tree
compares_from unary turns at x = bind_at at (λ at2. compared_with (sum_at unary turns) turns at2 x) (λ at3 y. ands_from unary turns at3 y)

-- behind its first product
abbrev pub sums_from : (ℕ → Read Tree) → ℕ → ℕ → Tree → Read Tree
sums_from unary turns at x = bind_at at (λ at2. more_of Sum unary turns at2 x) (λ at3 y. compares_from unary turns at3 y)

-- a statement that begins with a word
abbrev pub named_at : ℕ → ℕ → ℕ → Read Tree
named_at depth turns at = bind_at at (λ at2. then_blanks (word_at (nests depth) (expression_at (nested_at turns depth) turns) at2)) (after_word (unary_at turns depth) turns)

-- the next byte meets the test, or none does
abbrev pub HeadIs : (ℕ → Bool) → List ℕ → Bool → Type 0
HeadIs test [] v = v ≡ false
HeadIs test (b ∷ s) v = test b ≡ v
