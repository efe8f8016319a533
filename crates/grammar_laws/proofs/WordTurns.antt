-- Atoms, unaries and expressions have one answer for every number of turns past the length of the text.
use Rattle.std.proofs.Common.{ℕ, zero, suc, Bool, true, false, ◌&&◌, List, Option, Some, None}
use Rattle.std.specs.Prelude.{nat_eq}
use Rattle.reading.specs.Reading.{Read, done, bind, on_head, item}
use Rattle.reading.specs.Number.{is_digit}
use Rattle.reading.specs.Placed.{bind_at}
use Rattle.macro_grammar.specs.declared.words.Function.{Function}
use Rattle.macro_grammar.specs.Tree.{Tree, Name, Call0, Call1, Call2, Call3, Negated, Inverted}
use Rattle.macro_grammar.specs.Grammar.{IsLeaf, arity}
use Rattle.macro_grammar.specs.Readers.{blanks_at, name_at, function_of, number_or_dice_at, quoted_at, argument_at, closed, arguments_at, may_call, called_at, word_at, group_at, atom_at, then_blanks, prefixed_at, inner_at, expression_at, unary_of_at, nothing_at, unary_at, expr_at}
use Rattle.macro_grammar.proofs.Names.{TheBlanks, reads_blanks, TheName, reads_name}
use Rattle.macro_grammar.proofs.Leaves.{reads_number_or_dice, reads_quoted}
use Rattle.grammar_laws.proofs.Settled.{Settled, settled_reads, settled_done, settled_nothing, settled_item, settled_bind_at, settled_bind, settled_head}
use Rattle.grammar_laws.proofs.LevelTurns.{expression_settles}

pub blanks_settle : (m : ℕ) → Settled m (λ turns. blanks_at)
blanks_settle m = settled_reads m blanks_at TheBlanks reads_blanks

pub argument_settles : {A : Type 0} (m : ℕ) (expr : ℕ → ℕ → Read Tree) (separator at : ℕ) (k : ℕ → ℕ → Tree → Read A) → ((at2 : ℕ) → Settled m (λ turns. expr turns at2)) → ((at2 : ℕ) (x : Tree) → Settled m (λ turns. k turns at2 x))
    → Settled m (λ turns. argument_at (expr turns) separator at (k turns))
argument_settles m expr separator at k exprs more = settled_bind_at m at (λ turns _. item (nat_eq separator)) (λ turns at2 _. bind_at at2 (expr turns) (k turns)) (settled_item m (nat_eq separator))
    (λ at2 _. settled_bind_at m at2 expr k (exprs at2) more)

pub closed_settles : {A : Type 0} (m : ℕ) (x : A) → Settled m (λ turns. closed x)
closed_settles m x = settled_bind m (λ turns. item (nat_eq 41)) (λ turns _. done x) (settled_item m (nat_eq 41)) (λ _. settled_done m x)

pub blanks_settle_behind : (m : ℕ) (p : ℕ → Read Tree) → Settled m p → Settled m (λ turns. then_blanks (p turns))
blanks_settle_behind m p first = settled_bind m p (λ turns t. bind blanks_at (λ _. done t)) first (λ t. settled_bind m (λ turns. blanks_at) (λ turns _. done t) (blanks_settle m) (λ _. settled_done m t))

-- ---- words and atoms, given what an expression is

module _ (m : ℕ) (nests : Bool) (expr : ℕ → ℕ → Read Tree) (exprs : (at : ℕ) → Settled m (λ turns. expr turns at)) where
  arguments_settle : (at : ℕ) (f : Function) (at2 count : ℕ) → Settled m (λ turns. arguments_at (expr turns) at f at2 count)
  unfolding arguments_at
  arguments_settle at f at2 zero = settled_bind m (λ turns. item (nat_eq 40)) (λ turns _. closed (Call0 at f)) (settled_item m (nat_eq 40)) (λ _. closed_settles m (Call0 at f))
  arguments_settle at f at2 (suc zero) = argument_settles m expr 40 at2 (λ turns at3 x. closed (Call1 at f x)) exprs (λ at3 x. closed_settles m (Call1 at f x))
  arguments_settle at f at2 (suc (suc zero)) = argument_settles m expr 40 at2 (λ turns at3 x. argument_at (expr turns) 44 at3 (λ at4 y. closed (Call2 at f x y))) exprs
      (λ at3 x. argument_settles m expr 44 at3 (λ turns at4 y. closed (Call2 at f x y)) exprs (λ at4 y. closed_settles m (Call2 at f x y)))
  arguments_settle at f at2 (suc (suc (suc n))) = argument_settles m expr 40 at2 (λ turns at3 x. argument_at (expr turns) 44 at3 (λ at4 y. argument_at (expr turns) 44 at4 (λ at5 z. closed (Call3 at f x y z)))) exprs
      (λ at3 x. argument_settles m expr 44 at3 (λ turns at4 y. argument_at (expr turns) 44 at4 (λ at5 z. closed (Call3 at f x y z))) exprs
      (λ at4 y. argument_settles m expr 44 at4 (λ turns at5 z. closed (Call3 at f x y z)) exprs (λ at5 z. closed_settles m (Call3 at f x y z))))

  call_settles : (at at2 : ℕ) (name : List ℕ) (f : Option Function) → Settled m (λ turns. called_at nests (expr turns) at at2 name f)
  call_settles at at2 name None = settled_done m (Name at name)
  call_settles at at2 name (Some f) = settled_head m (λ b. nat_eq 40 b && may_call nests f) (λ turns. arguments_at (expr turns) at f at2 (arity f)) (λ turns. done (Name at name)) (arguments_settle at f at2 (arity f)) (settled_done m (Name at name))

  pub word_settles : (at : ℕ) → Settled m (λ turns. word_at nests (expr turns) at)
  unfolding word_at
  word_settles at = settled_bind_at m at (λ turns _. name_at) (λ turns at2 name. called_at nests (expr turns) at at2 name (function_of name)) (settled_reads m name_at TheName reads_name) (λ at2 name. call_settles at at2 name (function_of name))

  group_settles : (at : ℕ) → Settled m (λ turns. group_at (expr turns) at)
  unfolding group_at
  group_settles at = argument_settles m expr 40 at (λ turns at2 t. closed t) exprs (λ at2 t. closed_settles m t)

  atom_settles : (at : ℕ) → Settled m (λ turns. atom_at nests (expr turns) at)
  unfolding atom_at
  atom_settles at = settled_head m is_digit (λ turns. number_or_dice_at at) (λ turns. on_head (nat_eq 34) (quoted_at at) (on_head (λ b. nests && nat_eq 40 b) (group_at (expr turns) at) (word_at nests (expr turns) at)))
      (settled_reads m (number_or_dice_at at) (IsLeaf at) (reads_number_or_dice at))
      (settled_head m (nat_eq 34) (λ turns. quoted_at at) (λ turns. on_head (λ b. nests && nat_eq 40 b) (group_at (expr turns) at) (word_at nests (expr turns) at))
      (settled_reads m (quoted_at at) (IsLeaf at) (reads_quoted at))
      (settled_head m (λ b. nests && nat_eq 40 b) (λ turns. group_at (expr turns) at) (λ turns. word_at nests (expr turns) at) (group_settles at) (word_settles at)))

-- ---- unaries

module _ (m : ℕ) (nests : Bool) (unary : ℕ → ℕ → Read Tree) (one : (at : ℕ) → Settled m (λ turns. unary turns at)) where
  prefix_settles : (byte : ℕ) (mk : Tree → Tree) (at : ℕ) → Settled m (λ turns. prefixed_at byte mk (unary turns) at)
  prefix_settles byte mk at = settled_bind_at m at (λ turns _. item (nat_eq byte)) (λ turns at2 _. bind (unary turns at2) (λ u. done (mk u))) (settled_item m (nat_eq byte))
      (λ at2 _. settled_bind m (λ turns. unary turns at2) (λ turns u. done (mk u)) (one at2) (λ u. settled_done m (mk u)))

  inner_settles : (at : ℕ) → Settled m (λ turns. inner_at nests (unary turns) (expression_at (unary turns) turns) at)
  unfolding inner_at
  inner_settles at = settled_head m (λ b. nests && nat_eq 45 b) (λ turns. prefixed_at 45 (Negated at) (unary turns) at)
      (λ turns. on_head (λ b. nests && nat_eq 33 b) (prefixed_at 33 (Inverted at) (unary turns) at) (then_blanks (atom_at nests (expression_at (unary turns) turns) at)))
      (prefix_settles 45 (Negated at) at)
      (settled_head m (λ b. nests && nat_eq 33 b) (λ turns. prefixed_at 33 (Inverted at) (unary turns) at) (λ turns. then_blanks (atom_at nests (expression_at (unary turns) turns) at))
      (prefix_settles 33 (Inverted at) at)
      (blanks_settle_behind m (λ turns. atom_at nests (expression_at (unary turns) turns) at) (atom_settles m nests (λ turns. expression_at (unary turns) turns) (expression_settles m unary one) at)))

  unary_settles_of : (at : ℕ) → Settled m (λ turns. unary_of_at nests (unary turns) turns at)
  unary_settles_of at = settled_bind_at m at (λ turns _. blanks_at) (λ turns at2 _. inner_at nests (unary turns) (expression_at (unary turns) turns) at2) (blanks_settle m) (λ at2 _. inner_settles at2)

pub unary_settles : (m depth at : ℕ) → Settled m (λ turns. unary_at turns depth at)
unary_settles m zero at = unary_settles_of m false (λ turns. nothing_at) (λ at2. settled_nothing m) at
unary_settles m (suc depth) at = unary_settles_of m true (λ turns. unary_at turns depth) (unary_settles m depth) at

pub expr_settles : (m depth at : ℕ) → Settled m (λ turns. expr_at depth turns at)
expr_settles m depth at = expression_settles m (λ turns. unary_at turns depth) (unary_settles m depth) at
