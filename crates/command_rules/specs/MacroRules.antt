-- The rules of setting, removing and running a seat's macros.
use Rattle.std.specs.Prelude.{ℕ, List, [], ◌∷◌, if◌then◌else◌, Option, Some, None, option_map, is_some, Result, Ok, Err}
use Rattle.names.specs.declared.kinds.PropClass.{PropClass}
use Rattle.names.specs.declared.kinds.PropClass.TheVariants.{Public, Own as OwnClass, Secret as SecretClass}
use Rattle.names.specs.declared.token_id.TokenId.{TokenId}
use Rattle.names.specs.TokenId.{id_eq}
use Rattle.seats.specs.declared.book_fault.BookFault.{BookFault}
use Rattle.seats.specs.declared.book_fault.BookFault.TheVariants as book_faults
use Rattle.seats.specs.Book.{macro_of, macro_fault}
use Rattle.seat_random.specs.Stream.{Stream, after}
use Rattle.tokens.specs.Properties.{with_value}
use Rattle.chat.specs.declared.to.To.{To}
use Rattle.macro_grammar.specs.Tree.{Piece}
use Rattle.macro_parse.specs.declared.texts.MacroParseFault.{MacroParseFault}
use Rattle.macro_parse.specs.declared.texts.MacroParseFault.TheVariants as parse_faults
use Rattle.macro_parse.specs.Answers.{macro_of as pieces_of_text}
use Rattle.readable.specs.Table.{Table}
use Rattle.macro_eval.specs.declared.intent.Intent.{Intent}
use Rattle.macro_eval.specs.declared.stop.MacroStop.{MacroStop}
use Rattle.macro_eval.specs.declared.stop.MacroStop.TheVariants as stops
use Rattle.macro_eval.specs.Runs.{Ran, run_over}
use Rattle.command_json.specs.declared.command.Command.{Command}
use Rattle.command_json.specs.declared.command.Command.TheVariants.{Macro, Setmacro}
use Rattle.player_view.specs.Asked.{Mine}
use Rattle.command_rules.specs.declared.calls.Called.{Called}
use Rattle.command_rules.specs.declared.calls.Called.TheVariants as calls
use Rattle.command_rules.specs.declared.refusal.Refusal.{Refusal}
use Rattle.command_rules.specs.declared.refusal.Refusal.TheVariants.{NoSuchMacro, MacroLimit, DiceLimit, MacroSyntax, MacroBudget, MacroFault, Overflow}
use Rattle.command_rules.specs.GmRules.{then_rule, unless}
use Rattle.command_rules.specs.Rules.{setprop_rule}

-- a seat's macros: their names with their texts
abbrev pub Macros : Type 0
Macros = List (List ℕ × List ℕ)

-- ---- new texts

-- want of memory is no answer of reading
abbrev pub spelling_refusal : MacroParseFault → Refusal
spelling_refusal (parse_faults.MacroSyntax at) = MacroSyntax at
spelling_refusal parse_faults.DiceLimit = DiceLimit
spelling_refusal parse_faults.Memory = DiceLimit

-- the text spells pieces with dice within their limits
abbrev pub spelling_rule : Result (List Piece) MacroParseFault → Option Refusal
spelling_rule (Ok pieces) = None
spelling_rule (Err fault) = Some (spelling_refusal fault)

abbrev pub of_book_fault : BookFault → Refusal
of_book_fault book_faults.MacroLimit = MacroLimit
of_book_fault book_faults.Memory = MacroLimit

-- the name is there, or there is room for it
abbrev pub name_rule : Macros → List ℕ → Option Refusal
name_rule macros name = option_map of_book_fault (macro_fault macros name)

-- a macro that is to go has to be there; a text needs room for its name, and has to be one of a macro
abbrev pub new_text_rule : Macros → List ℕ → Option (List ℕ) → Option Refusal
new_text_rule macros name None = unless (is_some (macro_of name macros)) NoSuchMacro
new_text_rule macros name (Some text) = then_rule (name_rule macros name) (spelling_rule (pieces_of_text text))

-- a text that a seat's macro is to have; none, where the macro is to go
pub record NewText : Type 0 where
  pub name : List ℕ
  pub text : Option (List ℕ)

abbrev pub new_text_in : Command → Option NewText
new_text_in (Setmacro name text) = Some (record { name = name; text = text })
new_text_in c = None

-- the rule of the text that a command sets
abbrev pub setting_rule : Macros → Option NewText → Option Refusal
setting_rule macros None = None
setting_rule macros (Some new) = new_text_rule macros new.name new.text

-- ---- runs

-- a run that a command asks for
pub record Call : Type 0 where
  pub name : List ℕ
  pub args : List (List ℕ)
  pub to : To

abbrev pub call_in : Command → Option Call
call_in (Macro name args to) = Some (record { name = name; args = args; to = to })
call_in c = None

-- want of memory is no answer of a run
abbrev pub stop_refusal : MacroStop → Refusal
stop_refusal stops.Budget = MacroBudget
stop_refusal (stops.Fault kind at) = MacroFault kind at
stop_refusal stops.Overflow = Overflow
stop_refusal stops.Memory = Overflow

-- the words that a run drew are no longer in the stream
abbrev pub by_answer : Stream → Result Ran MacroStop → Called
by_answer stream (Ok ran) = calls.Ran (record { texts = ran.texts; intents = ran.intents; stream = after stream ran.used })
by_answer stream (Err stop) = calls.Stopped (stop_refusal stop)

abbrev pub by_pieces : Table → ℕ → Stream → Call → Result (List Piece) MacroParseFault → Called
by_pieces table seat stream call (Ok pieces) = by_answer stream (run_over pieces table call.args seat call.to stream)
by_pieces table seat stream call (Err fault) = calls.Stopped (spelling_refusal fault)

abbrev pub by_text : Table → ℕ → Stream → Call → Option (List ℕ) → Called
by_text table seat stream call None = calls.Stopped NoSuchMacro
by_text table seat stream call (Some text) = by_pieces table seat stream call (pieces_of_text text)

abbrev pub by_call : Table → ℕ → Macros → Stream → Option Call → Called
by_call table seat macros stream None = calls.NoRun
by_call table seat macros stream (Some call) = by_text table seat stream call (macro_of call.name macros)

-- what the run that a command asks for comes to
unfoldable pub called : Table → ℕ → Macros → Stream → Command → Called
called table seat macros stream c = by_call table seat macros stream (call_in c)

-- ---- what runs set

-- the token with the property set
abbrev pub mine_with : PropClass → List ℕ → List ℕ → Mine → Mine
mine_with Public name value token = record token { public = with_value name value token.public }
mine_with OwnClass name value token = record token { own = with_value name value token.own }
mine_with SecretClass name value token = token

-- the tokens that the seat may act on, once the property of one is set
abbrev pub once_set : Intent → (TokenId → Option Mine) → TokenId → Option Mine
once_set i mine id = if id_eq i.id id then option_map (mine_with i.class i.name i.value) (mine id) else mine id

-- each property may be set when its turn comes
abbrev pub intents_rule : ℕ → (TokenId → Option Mine) → List Intent → Option Refusal
intents_rule seat mine [] = None
intents_rule seat mine (i ∷ is) = then_rule (setprop_rule seat i.class i.name (mine i.id)) (intents_rule seat (once_set i mine) is)

-- the run didn't stop, and may set what it means to set
abbrev pub run_rule : ℕ → (TokenId → Option Mine) → Called → Option Refusal
run_rule seat mine calls.NoRun = None
run_rule seat mine (calls.Stopped refusal) = Some refusal
run_rule seat mine (calls.Ran run) = intents_rule seat mine run.intents
