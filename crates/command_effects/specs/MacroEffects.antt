-- What accepted commands do with macros: to their seats' books, and to the scene.
use Rattle.std.specs.Prelude.{ℕ, List, [], ◌∷◌, Option, Some, None}
use Rattle.seats.specs.Book.{Book, with_stream, with_macro, without_macro}
use Rattle.tokens.specs.declared.token.Token.{Token}
use Rattle.tokens.specs.Tokens.{changed, with_prop}
use Rattle.macro_eval.specs.declared.intent.Intent.{Intent}
use Rattle.world.specs.Scene.{Scene, with_token}
use Rattle.command_rules.specs.declared.calls.Called.{Called}
use Rattle.command_rules.specs.declared.calls.Called.TheVariants as calls
use Rattle.command_rules.specs.MacroRules.{NewText}

-- ---- the book

-- a macro is set, or removed where there is no text
abbrev pub with_text : List ℕ → Option (List ℕ) → Book → Book
with_text name None b = without_macro name b
with_text name (Some text) b = with_macro name text b

-- the book once the text, if there is one, is set
abbrev pub setting_text : Option NewText → Book → Book
setting_text None b = b
setting_text (Some new) b = with_text new.name new.text b

-- the book once the words of a run, if it doesn't stop, are drawn
abbrev pub drawing : Called → Book → Book
drawing calls.NoRun b = b
drawing (calls.Stopped refusal) b = b
drawing (calls.Ran run) b = with_stream b run.stream

-- ---- the scene

-- what a run means to set
abbrev pub intents_in : Called → List Intent
intents_in calls.NoRun = []
intents_in (calls.Stopped refusal) = []
intents_in (calls.Ran run) = run.intents

abbrev pub with_intent : Intent → Scene → Scene
with_intent i s = with_token i.id (with_prop i.class i.name i.value) s

-- the properties of tokens are set, one after another
abbrev pub tokens_with : List Intent → List Token → List Token
tokens_with [] tokens = tokens
tokens_with (i ∷ is) tokens = tokens_with is (changed i.id (with_prop i.class i.name i.value) tokens)

abbrev pub with_intents : List Intent → Scene → Scene
with_intents is s = record s { tokens = tokens_with is s.tokens }
