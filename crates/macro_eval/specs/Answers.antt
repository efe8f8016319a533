-- What a function of the code answers is what a step gives, unless memory ran out.
use Rattle.std.specs.Prelude.{◌≡◌, ℕ, suc, ℤ, List, Result, Ok, Err}
use Rattle.macro_eval.specs.declared.value.Value.{Value}
use Rattle.macro_eval.specs.declared.value.Value.TheVariants.{Whole, Text}
use Rattle.macro_eval.specs.declared.stop.FaultKind.TheVariants.{NotNumber, NotText}
use Rattle.macro_eval.specs.declared.stop.MacroStop.{MacroStop}
use Rattle.macro_eval.specs.declared.stop.MacroStop.TheVariants.{Budget, Fault, Overflow, Memory}
use Rattle.macro_eval.specs.Steps.{Step}
use Rattle.std.specs.Borrow.{Bor}
use Rattle.seat_random.specs.Stream.{Stream, after}
use Rattle.macro_eval.specs.declared.outcome.Outcome.{Outcome}
use Rattle.macro_eval.specs.Runs.{Ran, IsStopOf}
use Rattle.macro_eval.specs.Held.{Held, running}

abbrev pub Answers : {A : Type 0} → Step A → Result A MacroStop → Held → Type 0
Answers step (Ok a) new = step ≡ Ok (a, running new)
Answers step (Err Memory) new = Unit {0}
Answers step (Err Budget) new = step ≡ Err Budget
Answers step (Err Overflow) new = step ≡ Err Overflow
Answers step (Err (Fault kind at)) new = step ≡ Err (Fault kind at)

-- the value is the number, or it is a text, which is a fault at that place
abbrev pub Numbered : ℕ → Value → Result ℤ MacroStop → Type 0
Numbered at value (Ok z) = value ≡ Whole z
Numbered at value (Err stop) = (t : List ℕ) × (value ≡ Text t) × (stop ≡ Fault NotNumber at)

-- a unit was used, or there was none
abbrev pub Spends : {U : Type 0} → Held → Result U MacroStop → Held → Type 0
Spends old (Ok u) new = (old.units ≡ suc new.units) × (new ≡ record old { units = new.units })
Spends old (Err stop) new = (old.units ≡ 0) × (stop ≡ Budget)

-- the value is the text, or it is a number, which is a fault at that place
abbrev pub Worded : ℕ → Value → Result (Bor (List ℕ)) MacroStop → Type 0
Worded at value (Ok t) = value ≡ Text t.now
Worded at value (Err stop) = (z : ℤ) × (value ≡ Whole z) × (stop ≡ Fault NotText at)

-- what the code answers to a run, and what it makes of the stream
abbrev pub RunsTo : Result Ran MacroStop → Result Outcome MacroStop → Stream → Stream → Type 0
RunsTo answer (Ok o) old new = (used : ℕ) × (answer ≡ Ok (record { texts = o.texts; intents = o.intents; used = used })) × (new ≡ after old used)
RunsTo answer (Err stop) old new = IsStopOf answer stop × (new ≡ old)
