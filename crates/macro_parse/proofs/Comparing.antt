-- Comparisons by their first byte, and by the "=" behind it.
use Rattle.std.proofs.Common.{◌≡◌, ℕ, true, false, List, [], ◌∷◌, Some, refl, arith}
use Rattle.std.specs.Prelude.{nat_eq}
use Rattle.reading.proofs.Pairs.{Free}
use Rattle.macro_grammar.specs.declared.words.Operator.TheVariants.{LessOrEqual, GreaterOrEqual, Less, Greater}
use Rattle.macro_parse.specs.declared.levels.Level.TheVariants.{Compare}
use Rattle.macro_parse.specs.declared.levels.Next.TheVariants.{Found}
use Rattle.macro_grammar.specs.Readers.{compare_operator_at}
use Rattle.macro_parse.specs.Levels.{IsNext}
use Rattle.macro_parse.proofs.Scans.{takes_at, took, left}

pub at_most : (b : ℕ) (s t r : List ℕ) → s ≡ b ∷ t → b ≡ 60 → takes_at 61 t ≡ (Some true, r) → IsNext Compare s (Found LessOrEqual) r
unfolding compare_operator_at
at_most b s t r e same h = let k = took 61 t r h in rw (e, same, k) ((λ at. refl), (λ p q. refl), omega arith)

pub at_least : (b : ℕ) (s t r : List ℕ) → s ≡ b ∷ t → b ≡ 62 → takes_at 61 t ≡ (Some true, r) → IsNext Compare s (Found GreaterOrEqual) r
unfolding compare_operator_at
at_least b s t r e same h = let k = took 61 t r h in rw (e, same, k) ((λ at. refl), (λ p q. refl), omega arith)

below_by : (t : List ℕ) → Free (nat_eq 61) t → IsNext Compare (60 ∷ t) (Found Less) t
unfolding compare_operator_at
below_by [] f = ((λ at. refl), (λ p q. refl), omega arith)
below_by (b ∷ t) f = ((λ at. rw f refl), (λ p q. refl), omega arith)

above_by : (t : List ℕ) → Free (nat_eq 61) t → IsNext Compare (62 ∷ t) (Found Greater) t
unfolding compare_operator_at
above_by [] f = ((λ at. refl), (λ p q. refl), omega arith)
above_by (b ∷ t) f = ((λ at. rw f refl), (λ p q. refl), omega arith)

pub below : (b : ℕ) (s t r : List ℕ) → s ≡ b ∷ t → b ≡ 60 → takes_at 61 t ≡ (Some false, r) → IsNext Compare s (Found Less) r
below b s t r e same h = let k = left 61 t r h in let rest = k.0 in rw (e, same, rest) (below_by t k.1)

pub above : (b : ℕ) (s t r : List ℕ) → s ≡ b ∷ t → b ≡ 62 → takes_at 61 t ≡ (Some false, r) → IsNext Compare s (Found Greater) r
above b s t r e same h = let k = left 61 t r h in let rest = k.0 in rw (e, same, rest) (above_by t k.1)
