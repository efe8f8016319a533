-- How runs end.
use Rattle.std.proofs.Common.{◌≡◌, ℕ, List, map, refl, sym, ◌∙◌, ap, subst}
use Rattle.std.specs.Prelude.{Result, Ok, Err, IfOk, IfErr, OnOk, OnErr}
use Rattle.std.specs.List.{range_with_len}
use Rattle.seat_random.specs.Stream.{Stream, after}
use Rattle.macro_grammar.specs.Tree.{Piece}
use Rattle.macro_eval.specs.declared.said.Said.{Said}
use Rattle.macro_eval.specs.declared.outcome.Outcome.{Outcome}
use Rattle.macro_eval.specs.declared.stop.MacroStop.{MacroStop}
use Rattle.macro_eval.specs.declared.stop.MacroStop.TheVariants.{Budget, Fault, Overflow, Memory}
use Rattle.macro_eval.specs.Steps.{fresh}
use Rattle.macro_eval.specs.Held.{Held, running}
use Rattle.macro_eval.specs.Functions.{Setting}
use Rattle.macro_eval.specs.Pieces.{pieces_of}
use Rattle.macro_eval.specs.Answers.{Answers, RunsTo}
use Rattle.macro_eval.specs.Runs.{Ran, text_for, ended, run_of, words_drawn, IsOutcomeOf, IsStopOf}

pub runs_stop : (g : Setting) (words : ℕ → ℕ) (ps : List Piece) (stop : MacroStop) (mid : Held) (stream : Stream) → Answers {A = List Said} (pieces_of g 0 ps (fresh words)) (Err stop) mid → RunsTo (run_of g words ps) (Err stop) stream stream
unfolding run_of
runs_stop g words ps Memory mid stream h = (tt, refl)
runs_stop g words ps Budget mid stream h = (ap (ended g) h, refl)
runs_stop g words ps Overflow mid stream h = (ap (ended g) h, refl)
runs_stop g words ps (Fault kind at) mid stream h = (ap (ended g) h, refl)

pub runs_ok : (g : Setting) (words : ℕ → ℕ) (ps : List Piece) (out : List Said) (h : Held) → pieces_of g 0 ps (fresh words) ≡ Ok (out, running h)
    → run_of g words ps ≡ Ok (record { texts = map (text_for g out) (range_with_len 0 g.table.seats); intents = h.intents; used = h.used })
unfolding run_of
runs_ok g words ps out h e = ap (ended g) e

-- ---- the one answer, taken apart

pub ran_of : (answer : Result Ran MacroStop) (result : Result Outcome MacroStop) (old new : Stream) → RunsTo answer result old new → IfOk result (IsOutcomeOf answer)
ran_of answer (Ok o) old new h = subst (λ a. IsOutcomeOf a o) (sym h.1) (refl, refl)
ran_of answer (Err stop) old new h = tt

pub drawn_of : (answer : Result Ran MacroStop) (result : Result Outcome MacroStop) (old new : Stream) → RunsTo answer result old new → OnOk result (new ≡ after old (words_drawn answer))
drawn_of answer (Ok o) old new h = h.2 ∙ ap (λ a. after old (words_drawn a)) (sym h.1)
drawn_of answer (Err stop) old new h = tt

pub stopped_of : (answer : Result Ran MacroStop) (result : Result Outcome MacroStop) (old new : Stream) → RunsTo answer result old new → IfErr result (IsStopOf answer)
stopped_of answer (Ok o) old new h = tt
stopped_of answer (Err stop) old new h = h.0

pub refused_of : (answer : Result Ran MacroStop) (result : Result Outcome MacroStop) (old new : Stream) → RunsTo answer result old new → OnErr result (new ≡ old)
refused_of answer (Ok o) old new h = tt
refused_of answer (Err stop) old new h = h.1
