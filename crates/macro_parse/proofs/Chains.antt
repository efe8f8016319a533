-- Operators with their operands, as the code reads them.
use Rattle.std.proofs.Common.{◌≡◌, ℕ, ◌+◌, ◌-◌, ◌≤◌, List, length, Option, Some, None, Ok, Err, refl, ◌∙◌, arith}
use Rattle.std.specs.Prelude.{Result, IsErrAnd}
use Rattle.reading.specs.Reading.{done}
use Rattle.reading.specs.Placed.{bind_at}
use Rattle.macro_parse.specs.declared.nodes.Node.{Node}
use Rattle.macro_parse.specs.declared.nodes.Node.TheVariants.{Binary as BinaryNode}
use Rattle.macro_grammar.specs.declared.words.Operator.{Operator}
use Rattle.macro_parse.specs.declared.levels.Level.{Level}
use Rattle.macro_parse.specs.declared.levels.Level.TheVariants.{Compare}
use Rattle.macro_parse.specs.declared.levels.Next.TheVariants.{Found}
use Rattle.macro_parse.specs.declared.reader.Stop.{Stop}
use Rattle.macro_parse.specs.declared.reader.Stop.TheVariants.{Off, Memory}
use Rattle.macro_grammar.specs.Tree.{Tree, Binary}
use Rattle.macro_grammar.specs.Readers.{unary_at, sum_at, compared_with}
use Rattle.macro_parse.specs.Flat.{Shows, Kept, Puts, Grows, Finds, place}
use Rattle.macro_parse.specs.Levels.{operator_of, operand_of, Steps, IsNext}
use Rattle.macro_parse.proofs.FlatTrees.{put_binary, grows_itself}

module _ (level : Level) (depth : ℕ) where
  -- an operator was read, and its operand found
  pub step_found : (end end1 at i left right : ℕ) (o : Operator) (s r1 r2 : List ℕ) (n0 n1 n2 : List Node) → IsNext level s (Found o) r1 → length s ≤ end → length r2 ≤ length r1 → end1 ≡ end → at ≡ place end s
      → Finds (Puts n0 n1) (λ turns. operand_of level (unary_at turns depth) turns (place end1 r1)) (Ok right) r1 r2 → Kept n1 n2 i (BinaryNode at o left right)
      → (x : Tree) → Shows n0 left x → Steps level depth end x n0 n2 (Ok (Some i)) s r2
  step_found end end1 at i left right o s r1 r2 n0 n1 n2 next room shrinks same here h kept x shown =
      let short = next.2 in
      let d1 : place end s + (length s - length r1) ≡ place end r1 = omega arith in
      let d2 : place end r1 + (length r1 - length r2) ≡ place end r2 = omega arith in (
        Binary (place end s) o x h.0,
        rw here at (put_binary n0 n1 n2 i at left right o x h.0 shown h.1 kept),
        omega arith,
        λ turns k lt.
            let e = h.2 turns (omega arith) in
            let f = rw same at e in
            next.1 (bind_at (place end s) (operator_of level) (λ at2 o2. bind_at at2 (operand_of level (unary_at turns depth) turns) (λ at3 y. k at3 (Binary (place end s) o2 x y)))) (done x)
            ∙ rw (next.0 (place end s), d1, f, d2) refl,
      )

  -- an operator was read, and its operand stops
  pub step_stops : (end end1 : ℕ) (stop : Stop) (o : Operator) (s r1 r2 : List ℕ) (n0 n1 n2 : List Node) → IsNext level s (Found o) r1 → length s ≤ end → end1 ≡ end
      → Finds (Puts n0 n1) (λ turns. operand_of level (unary_at turns depth) turns (place end1 r1)) (Err stop) r1 r2
      → (x : Tree) → Steps level depth end x n0 n2 (Err stop) s r2
  step_stops end end1 Off o s r1 r2 n0 n1 n2 next room same h x = λ turns k lt.
      let short = next.2 in
      let d1 : place end s + (length s - length r1) ≡ place end r1 = omega arith in
      let e = h turns (omega arith) in
      let f = rw same at e in
      next.1 (bind_at (place end s) (operator_of level) (λ at2 o2. bind_at at2 (operand_of level (unary_at turns depth) turns) (λ at3 y. k at3 (Binary (place end s) o2 x y)))) (done x)
      ∙ rw (next.0 (place end s), d1, f) refl
  step_stops end end1 Memory o s r1 r2 n0 n1 n2 next room same h x = tt

-- ---- comparisons

module _ (depth end : ℕ) (x : Tree) (s r : List ℕ) (n0 n1 : List Node) where
  pub compare_stops : (stop : Stop) → Steps Compare depth end x n0 n1 (Err stop) s r → Finds (Grows x n0 n1) (λ turns. compared_with (sum_at (unary_at turns depth) turns) turns (place end s) x) (Err stop) s r
  compare_stops Off h = λ turns lt. h turns (λ at y. done y) lt
  compare_stops Memory h = tt

  pub compare_none : (left : ℕ) → Shows n0 left x → Steps Compare depth end x n0 n1 (Ok None) s r → Finds (Grows x n0 n1) (λ turns. compared_with (sum_at (unary_at turns depth) turns) turns (place end s) x) (Ok left) s r
  compare_none left shown (e, f, h) = (x, rw f (grows_itself n0 left x shown), λ turns lt. rw e (h turns (λ at y. done y)))

  pub compare_found : (i : ℕ) → Steps Compare depth end x n0 n1 (Ok (Some i)) s r → Finds (Grows x n0 n1) (λ turns. compared_with (sum_at (unary_at turns depth) turns) turns (place end s) x) (Ok i) s r
  compare_found i (t, grown, short, h) = (t, grown, λ turns lt. h turns (λ at y. done y) lt)

pub step_residual : (level : Level) (depth end : ℕ) (x : Tree) (n0 n1 : List Node) (found : Result (Option ℕ) Stop) (stop : Stop) (s r : List ℕ) → IsErrAnd found (λ e. e ≡ stop) → Steps level depth end x n0 n1 (Err stop) s r → Steps level depth end x n0 n1 found s r
step_residual level depth end x n0 n1 (Ok v) stop s r e h = absurd e
step_residual level depth end x n0 n1 (Err other) stop s r e h = rw e h
