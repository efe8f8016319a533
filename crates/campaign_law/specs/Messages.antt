-- What a command says to the seats.
use Rattle.std.specs.Prelude.{ℕ, ◌+◌, List, [], ◌∷◌, ◌++◌, Option, Some, None}
use Rattle.chat.specs.declared.to.To.{To}
use Rattle.chat.specs.declared.to.To.TheVariants.{Seat}
use Rattle.chat.specs.Messages.{message_line}
use Rattle.command_rules.specs.declared.calls.Called.{Called}
use Rattle.command_rules.specs.declared.calls.Called.TheVariants as calls
use Rattle.command_rules.specs.MacroRules.{Call}

-- a line to the seats that an address reaches
pub record Message : Type 0 where
  pub from : ℕ
  pub to : To
  pub line : List ℕ

abbrev pub message_by : ℕ → Option (To × List ℕ) → List Message
message_by seat None = []
message_by seat (Some words) = record { from = seat; to = words.0; line = message_line seat words.0 words.1 } ∷ []

-- ---- runs of macros

-- the text of each seat, in order
abbrev pub texts_in : Called → List (List ℕ)
texts_in calls.NoRun = []
texts_in (calls.Stopped refusal) = []
texts_in (calls.Ran run) = run.texts

-- the seat gets its text, if that isn't empty; what it is shown is the command's address
abbrev pub text_message : ℕ → To → ℕ → List ℕ → List Message
text_message from to seat [] = []
text_message from to seat (byte ∷ text) = record { from = from; to = Seat seat; line = message_line from to (byte ∷ text) } ∷ []

-- the texts of this seat and those behind it
abbrev pub text_messages : ℕ → To → ℕ → List (List ℕ) → List Message
text_messages from to seat [] = []
text_messages from to seat (text ∷ texts) = text_message from to seat text ++ text_messages from to (seat + 1) texts

abbrev pub run_messages : ℕ → Option Call → List (List ℕ) → List Message
run_messages from None texts = []
run_messages from (Some call) texts = text_messages from call.to 0 texts
