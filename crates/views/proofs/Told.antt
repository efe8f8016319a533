-- What the tests say of their answers.
use Rattle.std.proofs.Common.{◌≡◌, ◌∙◌, Bool, Decides, sym}
use Rattle.std.specs.Prelude.{◌↔◌, IsTrue}

-- an answer that is a test's tells what the test does
pub told : {P : Type 0} (answer test : Bool) → answer ≡ test → Decides test P → IsTrue answer ↔ P
told answer test e d = (λ t. d.0 (sym e ∙ t), λ p. e ∙ d.1 p)
