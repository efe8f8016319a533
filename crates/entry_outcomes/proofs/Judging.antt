-- Rulings, and what the run of an allowed command may rely on.
use Rattle.std.proofs.Common.{◌≡◌, ◌≤◌, ℕ, List, length, Some, None, refl, sym, ◌∙◌, ap, subst, arith}
use Rattle.std.specs.Prelude.{Option, Result, Ok, Err}
use Rattle.std.proofs.lemmas.List.FromFn.{length-map-range_with_len}
use Rattle.seat_random.specs.Stream.{Stream, word_of}
use Rattle.seats.specs.Book.{Book, macro_of}
use Rattle.macro_grammar.specs.Tree.{Piece}
use Rattle.macro_parse.specs.declared.texts.MacroParseFault.{MacroParseFault}
use Rattle.macro_parse.specs.Answers.{macro_of as pieces_of_text}
use Rattle.readable.specs.Table.{Table}
use Rattle.macro_eval.specs.Functions.{Setting, setting_of}
use Rattle.macro_eval.specs.Steps.{fresh}
use Rattle.macro_eval.specs.Pieces.{pieces_of}
use Rattle.macro_eval.specs.Runs.{ended, run_of, text_for}
use Rattle.command_json.specs.declared.command.Command.{Command}
use Rattle.player_view.specs.Asked.{Asked}
use Rattle.command_rules.specs.declared.calls.Called.{Called}
use Rattle.command_rules.specs.declared.refusal.Refusal.{Refusal}
use Rattle.command_rules.specs.Rules.{rule_of}
use Rattle.command_rules.specs.GmRules.{then_rule}
use Rattle.command_rules.specs.MacroRules.{Call, Macros, by_answer, by_call, by_pieces, by_text, call_in, called, new_text_in, run_rule, setting_rule}
use Rattle.campaign_law.specs.Messages.{texts_in}
use Rattle.campaign_law.specs.Outcome.{broken_rule, called_by, dice_in, roll_rule}
use Rattle.entry_outcomes.specs.declared.rulings.Ruling.{Ruling}
use Rattle.entry_outcomes.specs.declared.rulings.Ruling.TheVariants.{Refused, Allowed}
use Rattle.entry_outcomes.specs.Rulings.{IsRuling, IsRunFor}

-- ---- one rule after another

pub first_none : (first second : Option Refusal) → then_rule first second ≡ None → first ≡ None
first_none None second h = refl
first_none (Some r) second h = cc

pub second_none : (first second : Option Refusal) → then_rule first second ≡ None → second ≡ None
second_none None second h = h
second_none (Some r) second h = cc

last_of : (a b c d : Option Refusal) → then_rule a (then_rule b c) ≡ None → then_rule a (then_rule b (then_rule c d)) ≡ d
last_of None None None d h = refl
last_of None None (Some r) d h = cc
last_of None (Some r) c d h = cc
last_of (Some r) b c d h = cc

first_of : (a b c d : Option Refusal) (r : Refusal) → then_rule a (then_rule b c) ≡ Some r → then_rule a (then_rule b (then_rule c d)) ≡ Some r
first_of None None None d r h = cc
first_of None None (Some q) d r h = h
first_of None (Some q) c d r h = h
first_of (Some q) b c d r h = h

-- all rules of a command but those of its run
abbrev pub own_rule : Asked → ℕ → Book → Command → Option Refusal
own_rule asked seat b c = then_rule (rule_of asked seat b.tags c) (then_rule (roll_rule (dice_in c)) (setting_rule b.macros (new_text_in c)))

pub own_rule_breaks : (asked : Asked) (seat : ℕ) (b : Book) (c : Command) (r : Refusal) → own_rule asked seat b c ≡ Some r → broken_rule asked seat b c ≡ Some r
own_rule_breaks asked seat b c r h =
    first_of (rule_of asked seat b.tags c) (roll_rule (dice_in c)) (setting_rule b.macros (new_text_in c)) (run_rule seat asked.mine (called_by asked seat b c)) r h

pub run_is_ruled : (asked : Asked) (seat : ℕ) (b : Book) (c : Command) (run : Called) (r : Ruling) → own_rule asked seat b c ≡ None → run ≡ called_by asked seat b c
    → IsRuling (run_rule seat asked.mine run) run r → IsRuling (broken_rule asked seat b c) (called_by asked seat b c) r
run_is_ruled asked seat b c run r none is h =
    let rule : run_rule seat asked.mine run ≡ broken_rule asked seat b c =
    ap (run_rule seat asked.mine) is
    ∙ sym (last_of (rule_of asked seat b.tags c) (roll_rule (dice_in c)) (setting_rule b.macros (new_text_in c)) (run_rule seat asked.mine (called_by asked seat b c)) none) in
    subst (λ q. IsRuling (broken_rule asked seat b c) q r) is (subst (λ q. IsRuling q run r) rule h)

-- the command is allowed, and its run came to this
pub record IsAllowedWith (asked : Asked) (seat : ℕ) (b : Book) (c : Command) (run : Called) : Type 0 where
  pub rule : broken_rule asked seat b c ≡ None
  pub comes : run ≡ called_by asked seat b c

pub allowed_with : (asked : Asked) (seat : ℕ) (b : Book) (c : Command) (r : Ruling) (run : Called) → IsRuling (broken_rule asked seat b c) (called_by asked seat b c) r → r ≡ Allowed run → IsAllowedWith asked seat b c run
allowed_with asked seat b c r run h is =
    let parts : IsRuling (broken_rule asked seat b c) (called_by asked seat b c) (Allowed run) = subst (IsRuling (broken_rule asked seat b c) (called_by asked seat b c)) is h in
    record { rule = parts.0; comes = parts.1 }

pub refused_with : (asked : Asked) (seat : ℕ) (b : Book) (c : Command) (r : Ruling) (refusal : Refusal) → IsRuling (broken_rule asked seat b c) (called_by asked seat b c) r → r ≡ Refused refusal → broken_rule asked seat b c ≡ Some refusal
refused_with asked seat b c r refusal h is = subst (IsRuling (broken_rule asked seat b c) (called_by asked seat b c)) is h

-- ---- runs

-- a command that asks for no run has none
pub no_call : (table : Table) (seat : ℕ) (macros : Macros) (stream : Stream) (c : Command) → IsRunFor c (called table seat macros stream c)
unfolding called
no_call table seat macros stream c none = ap (by_call table seat macros stream) none

-- a run has a text for each seat
ended_texts : (stream : Stream) (g : Setting) (step : _) → length (texts_in (by_answer stream (ended g step))) ≤ g.table.seats
ended_texts stream g (Ok done) = let count = length-map-range_with_len (text_for g done.0) 0 g.table.seats in omega (arith, count)
ended_texts stream g (Err stop) = omega arith

pieces_texts : (table : Table) (seat : ℕ) (stream : Stream) (call : Call) (answer : Result (List Piece) MacroParseFault) → length (texts_in (by_pieces table seat stream call answer)) ≤ table.seats
unfolding run_of
pieces_texts table seat stream call (Ok pieces) = ended_texts stream (setting_of table call.args seat call.to) (pieces_of (setting_of table call.args seat call.to) 0 pieces (fresh (word_of stream)))
pieces_texts table seat stream call (Err fault) = omega arith

text_texts : (table : Table) (seat : ℕ) (stream : Stream) (call : Call) (found : Option (List ℕ)) → length (texts_in (by_text table seat stream call found)) ≤ table.seats
text_texts table seat stream call None = omega arith
text_texts table seat stream call (Some text) = pieces_texts table seat stream call (pieces_of_text text)

call_texts : (table : Table) (seat : ℕ) (macros : Macros) (stream : Stream) (call : Option Call) → length (texts_in (by_call table seat macros stream call)) ≤ table.seats
call_texts table seat macros stream None = omega arith
call_texts table seat macros stream (Some call) = text_texts table seat stream call (macro_of call.name macros)

pub called_texts : (table : Table) (seat : ℕ) (macros : Macros) (stream : Stream) (c : Command) → length (texts_in (called table seat macros stream c)) ≤ table.seats
unfolding called
called_texts table seat macros stream c = call_texts table seat macros stream (call_in c)
