-- What the run of a macro comes to.
use Rattle.std.specs.Prelude.{◌≡◌, ℕ, Bool, false, List, map, Option, Some, None, Result, Ok, Err}
use Rattle.std.specs.List.{filter, flat_map, range_with_len}
use Rattle.chat.specs.declared.to.To.{To}
use Rattle.chat.specs.Addresses.{is_addressed}
use Rattle.macro_grammar.specs.Tree.{Piece}
use Rattle.macro_eval.specs.declared.intent.Intent.{Intent}
use Rattle.seat_random.specs.Stream.{Stream, word_of}
use Rattle.macro_eval.specs.declared.outcome.Outcome.{Outcome}
use Rattle.macro_eval.specs.declared.stop.MacroStop.{MacroStop}
use Rattle.macro_eval.specs.declared.stop.MacroStop.TheVariants.{Budget, Fault, Overflow, Memory}
use Rattle.macro_eval.specs.Steps.{Step, fresh}
use Rattle.readable.specs.Table.{Table}
use Rattle.macro_eval.specs.Functions.{Setting, setting_of}
use Rattle.macro_eval.specs.Pieces.{pieces_of}
use Rattle.macro_eval.specs.declared.said.Said.{Said}

-- what a run comes to: a text for each seat, which is empty where it gets no message; what is to be set; and how many words were
-- drawn
pub record Ran : Type 0 where
  pub texts : List (List ℕ)
  pub intents : List Intent
  pub used : ℕ

abbrev pub reaches : Setting → ℕ → Option To → Bool
reaches g seat None = false
reaches g seat (Some to) = is_addressed to g.from g.table.seats seat

-- all pieces addressed to the seat, joined in order
abbrev pub text_for : Setting → List Said → ℕ → List ℕ
text_for g said seat = flat_map (λ m. m.text) (filter (λ m. reaches g seat m.to) said)

abbrev pub ended : Setting → Step (List Said) → Result Ran MacroStop
ended g (Ok done) = Ok (record { texts = map (text_for g done.0) (range_with_len 0 g.table.seats); intents = done.1.intents; used = done.1.used })
ended g (Err stop) = Err stop

-- the run of a macro over the words of the seat that runs it
unfoldable pub run_of : Setting → (ℕ → ℕ) → List Piece → Result Ran MacroStop
run_of g words pieces = ended g (pieces_of g 0 pieces (fresh words))

-- the run of a macro of the seat `from`, to an address, over its stream
abbrev pub run_over : List Piece → Table → List (List ℕ) → ℕ → To → Stream → Result Ran MacroStop
run_over pieces table args from to stream = run_of (setting_of table args from to) (word_of stream) pieces

-- how many words a run draws: none, where it stops
abbrev pub words_drawn : Result Ran MacroStop → ℕ
words_drawn (Ok ran) = ran.used
words_drawn (Err stop) = 0

-- the run doesn't stop, and these are its texts and intents
abbrev pub IsOutcomeOf : Result Ran MacroStop → Outcome → Type 0
IsOutcomeOf (Ok ran) outcome = (outcome.texts ≡ ran.texts) × (outcome.intents ≡ ran.intents)
IsOutcomeOf (Err stop) outcome = ⊥

-- the run stops so, unless memory ran out
abbrev pub IsStopOf : Result Ran MacroStop → MacroStop → Type 0
IsStopOf answer Budget = answer ≡ Err Budget
IsStopOf answer (Fault kind at) = answer ≡ Err (Fault kind at)
IsStopOf answer Overflow = answer ≡ Err Overflow
IsStopOf answer Memory = Unit {0}
