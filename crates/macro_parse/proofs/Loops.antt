-- A chain of operators is read step by step, and what is read so far stands to the left of what comes.
use Rattle.std.proofs.Common.{◌≡◌, ℕ, suc, ◌+◌, ◌-◌, ◌<◌, ◌≤◌, List, length, Option, Some, Err, refl, ◌∙◌, arith}
use Rattle.reading.specs.Reading.{Read}
use Rattle.reading.specs.Placed.{more_at}
use Rattle.macro_parse.specs.declared.nodes.Node.{Node}
use Rattle.macro_parse.specs.declared.levels.Level.{Level}
use Rattle.macro_parse.specs.declared.levels.Level.TheVariants.{Or, And, Compare, Sum, Product}
use Rattle.macro_parse.specs.declared.reader.Stop.{Stop}
use Rattle.macro_parse.specs.declared.reader.Stop.TheVariants.{Off, Memory}
use Rattle.macro_grammar.specs.Tree.{Tree, Binary}
use Rattle.macro_grammar.specs.Readers.{unary_at}
use Rattle.macro_parse.specs.Flat.{Grows, Finds, place}
use Rattle.macro_parse.specs.Levels.{test_of, operator_of, operand_of, more_of, once_at, Steps}

-- how strong the operators of a level are
abbrev pub rank : Level → ℕ
rank Or = 4
rank And = 3
rank Compare = 2
rank Sum = 1
rank Product = 0

module _ (level : Level) (depth end : ℕ) where
  abbrev more_from : ℕ → ℕ → List ℕ → Tree → Option Tree × List ℕ
  more_from turns n s x = more_at (test_of level) (operator_of level) (operand_of level (unary_at turns depth) turns) Binary n (place end s) x s

  abbrev goes_on : ℕ → ℕ → ℕ → Tree → Read Tree
  goes_on turns n at x = more_at (test_of level) (operator_of level) (operand_of level (unary_at turns depth) turns) Binary n at x

  -- so many operators were read behind x, and y is what stands to the left of what comes
  pub record SoFar (whole : List ℕ) (x : Tree) (rest : List ℕ) (y : Tree) : Type 0 where
    pub count : ℕ
    pub told : (turns n : ℕ) → length whole < turns → turns ≡ count + n → more_from turns turns whole x ≡ more_from turns n rest y
    pub room : count + length rest ≤ length whole

  pub so_far_first : (whole : List ℕ) (x : Tree) → SoFar whole x whole x
  so_far_first whole x = record {
    count = 0;
    told = λ turns n lt e. let same : turns ≡ n = omega arith in rw same refl;
    room = omega arith;
  }

  pub so_far_next : (whole rest r : List ℕ) (x y z : Tree) → SoFar whole x rest y → length r < length rest
      → ((turns : ℕ) (k : ℕ → Tree → Read Tree) → length rest < turns → once_at level (unary_at turns depth) turns k (place end rest) y rest ≡ k (place end r) z r) → SoFar whole x r z
  so_far_next whole rest r x y z s short h =
      let room = s.room in
      record {
        count = s.count + 1;
        told = λ turns n lt e. s.told turns (suc n) lt (omega arith) ∙ h turns (goes_on turns n) (omega arith);
        room = omega arith;
      }

  pub so_far_end : (whole rest : List ℕ) (x y : Tree) → SoFar whole x rest y
      → ((turns : ℕ) (k : ℕ → Tree → Read Tree) → once_at level (unary_at turns depth) turns k (place end rest) y rest ≡ (Some y, rest)) → (turns : ℕ) → length whole < turns → more_from turns turns whole x ≡ (Some y, rest)
  so_far_end whole rest x y s h turns lt =
      let room = s.room in
      let n = turns - (s.count + 1) in
      s.told turns (suc n) lt (omega arith) ∙ h turns (goes_on turns n)

  pub so_far_stop : (whole rest r : List ℕ) (x y : Tree) (xs ys zs : List Node) (stop : Stop) → SoFar whole x rest y → Steps level depth end y ys zs (Err stop) rest r
      → Finds (Grows x xs zs) (λ turns. more_of level (unary_at turns depth) turns (place end whole) x) (Err stop) whole r
  so_far_stop whole rest r x y xs ys zs Off s h = λ turns lt.
      let room = s.room in
      let n = turns - (s.count + 1) in
      s.told turns (suc n) lt (omega arith) ∙ h turns (goes_on turns n) (omega arith)
  so_far_stop whole rest r x y xs ys zs Memory s h = tt
