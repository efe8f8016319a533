-- What runs come to, by the answers of the code.
use Rattle.std.proofs.Common.{◌≡◌, ℕ, List, Some, sym, ◌∙◌, ap, subst}
use Rattle.std.specs.Prelude.{IfOk, Result, Ok, Err}
use Rattle.seat_random.specs.Stream.{Stream, after}
use Rattle.seats.specs.Book.{macro_of}
use Rattle.command_json.specs.declared.command.Command.{Command}
use Rattle.macro_grammar.specs.Tree.{Piece}
use Rattle.macro_parse.specs.declared.texts.MacroParseFault.{MacroParseFault}
use Rattle.macro_parse.specs.Answers.{macro_of as pieces_of_text}
use Rattle.macro_eval.specs.declared.outcome.Outcome.{Outcome}
use Rattle.macro_eval.specs.declared.stop.MacroStop.{MacroStop}
use Rattle.macro_eval.specs.Runs.{Ran, run_over, words_drawn, IsOutcomeOf}
use Rattle.readable.specs.Table.{Table}
use Rattle.command_rules.specs.declared.calls.Called.{Called}
use Rattle.command_rules.specs.declared.calls.Called.TheVariants as calls
use Rattle.command_rules.specs.MacroRules.{Macros, Call, call_in, spelling_refusal, stop_refusal, by_answer, by_pieces, by_text, by_call, called}

pub answered : (old new : Stream) (answer : Result Ran MacroStop) (o : Outcome) → IsOutcomeOf answer o → new ≡ after old (words_drawn answer)
    → calls.Ran (record { texts = o.texts; intents = o.intents; stream = new }) ≡ by_answer old answer
answered old new (Ok ran) o is drawn = λ i. calls.Ran (record { texts = is.0 i; intents = is.1 i; stream = drawn i })
answered old new (Err stop) o is drawn = absurd is

pub stopped : (stream : Stream) (answer : Result Ran MacroStop) (stop : MacroStop) → answer ≡ Err stop → calls.Stopped (stop_refusal stop) ≡ by_answer stream answer
stopped stream answer stop e = sym (ap (by_answer stream) e)

pub spelt : (table : Table) (seat : ℕ) (stream : Stream) (call : Call) (answer : Result (List Piece) MacroParseFault) (pieces : List Piece) → answer ≡ Ok pieces
    → by_pieces table seat stream call answer ≡ by_answer stream (run_over pieces table call.args seat call.to stream)
spelt table seat stream call answer pieces e = ap (by_pieces table seat stream call) e

pub misspelt : (table : Table) (seat : ℕ) (stream : Stream) (call : Call) (answer : Result (List Piece) MacroParseFault) (fault : MacroParseFault) → answer ≡ Err fault
    → by_pieces table seat stream call answer ≡ calls.Stopped (spelling_refusal fault)
misspelt table seat stream call answer fault e = ap (by_pieces table seat stream call) e

-- the run that a command asks for, of the text under its name
pub runs : {E : Type 0} (table : Table) (seat : ℕ) (macros : Macros) (stream : Stream) (c : Command) (call : Call) (text : List ℕ) (answer : Result Called E) → call_in c ≡ Some call
    → Some text ≡ macro_of call.name macros → IfOk answer (λ ran. ran ≡ by_pieces table seat stream call (pieces_of_text text)) → IfOk answer (λ ran. ran ≡ called table seat macros stream c)
unfolding called
runs table seat macros stream c call text answer asks there ran =
    subst (λ r. IfOk answer (λ ran. ran ≡ r)) (ap (by_text table seat stream call) there ∙ sym (ap (by_call table seat macros stream) asks)) ran
