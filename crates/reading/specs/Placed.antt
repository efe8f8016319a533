-- Reading where each part knows its place in the text.
use Rattle.std.specs.Prelude.{◌≡◌, ℕ, zero, suc, ◌+◌, ◌-◌, Bool, cond, List, [], ◌∷◌, ◌++◌, length, Some, None}
use Rattle.reading.specs.Reading.{Read, done, carry, bind, on_head}

-- A grammar says which bytes, from which place on, spell which value.
abbrev pub Grammar : Type 0 → Type 1
Grammar A = ℕ → List ℕ → A → Type 0

-- p from the place at, then k from the place behind it
abbrev pub bind_at : {A B : Type 0} → ℕ → (ℕ → Read A) → (ℕ → A → Read B) → Read B
bind_at at p k s = carry (k (at + (length s - length (p at s).1))) (p at s).0 (p at s).1

-- so many bytes at most that meet the test
abbrev pub many_at : (ℕ → Bool) → ℕ → Read (List ℕ)
many_at test zero s = (Some [], s)
many_at test (suc most) [] = (Some [], [])
many_at test (suc most) (b ∷ s) = cond (test b) (bind (many_at test most) (λ bs. done (b ∷ bs)) s) (Some [], b ∷ s)

-- operands and operators, which group to the left
abbrev pub more_at : {O T : Type 0} → (ℕ → Bool) → (ℕ → Read O) → (ℕ → Read T) → (ℕ → O → T → T → T) → ℕ → ℕ → T → Read T
more_at test op operand mk zero at x s = (None, s)
more_at test op operand mk (suc turns) at x s = on_head test
    (bind_at at op (λ at2 o. bind_at at2 operand (λ at3 y. more_at test op operand mk turns at3 (mk at o x y)))) (done x) s

abbrev pub chain_at : {O T : Type 0} → (ℕ → Bool) → (ℕ → Read O) → (ℕ → Read T) → (ℕ → O → T → T → T) → ℕ → ℕ → Read T
chain_at test op operand mk turns at = bind_at at operand (more_at test op operand mk turns)

-- the same as a grammar: steps are the operators and their right operands
abbrev pub Steps : {O T : Type 0} → Grammar O → Grammar T → (ℕ → O → T → T → T) → List (O × T) → ℕ → T → List ℕ → T → Type 0
Steps Op Operand mk [] at x s t = (s ≡ []) × (t ≡ x)
Steps Op Operand mk (step ∷ steps) at x s t = (a : List ℕ) × (b : List ℕ) × (c : List ℕ) × (s ≡ a ++ (b ++ c))
    × Op at a step.0 × Operand (at + length a) b step.1 × Steps Op Operand mk steps ((at + length a) + length b) (mk at step.0 x step.1) c t

abbrev pub Chain : {O T : Type 0} → Grammar O → Grammar T → (ℕ → O → T → T → T) → Grammar T
Chain {O} {T} Op Operand mk at s t = (a : List ℕ) × (b : List ℕ) × (x : T) × (steps : List (O × T)) × (s ≡ a ++ b) × Operand at a x × Steps Op Operand mk steps (at + length a) x b t
