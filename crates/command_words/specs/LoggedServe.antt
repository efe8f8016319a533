-- The words of a campaign that is served with a log, without the program's name:
--   serve FILE PORT COUNT --log LOG [--end]
use Rattle.std.specs.Prelude.{ℕ, Bool, true, false, ◌&&◌, List, [], ◌∷◌, if◌then◌else◌, Option, Some, None, option_and_then, codes}
use Rattle.std.specs.Str.{bytes_eq}
use Rattle.clap.specs.Words.{App, with_rule, with_subcommand}
use Rattle.command_words.specs.Words.{Text, Asked, Serve, is_file, is_end, serve}
use Rattle.command_words.specs.Program.{end_rule, served_app, top_app}
use Rattle.command_words.specs.Logged.{log_rule}
use Rattle.command_words.specs.declared.logged_serve.LoggedServe.{LoggedServe}

-- what the words ask for: the campaign's file, the port, how many connections are served, the log's file, and whether the campaign is
-- written at the end
pub record LoggedService : Type 0 where
  pub file : Text
  pub port : ℕ
  pub count : ℕ
  pub log : Text
  pub end : Bool

-- what `serve` takes of its own words, and a log, which is the name of a file
abbrev pub with_log : Text → Option Asked → Option LoggedService
with_log log (Some (Serve file port count end)) =
    if is_file log then Some (record { file = file; port = port; count = count; log = log; end = end }) else None
with_log _ _ = None

-- these are the first word and the fifth
abbrev pub is_marked : Text → Text → Bool
is_marked command mark = bytes_eq command (codes "serve") && bytes_eq mark (codes "--log")

-- nothing, or `--end`: whether the campaign is written at the end
abbrev pub ending : List Text → Option Bool
ending [] = Some false
ending (word ∷ []) = if is_end word then Some true else None
ending _ = None

-- what the words ask for; none, where they are not these
abbrev pub logged_serve_of : List Text → Option LoggedService
logged_serve_of (command ∷ file ∷ port ∷ count ∷ mark ∷ log ∷ last) =
    if is_marked command mark then option_and_then (λ end. with_log log (serve file port count end)) (ending last) else None
logged_serve_of _ = None

-- by the bytes of its texts
abbrev pub asked_service : LoggedServe → LoggedService
asked_service service =
    record { file = service.file.now; port = service.port; count = service.count; log = service.log.now; end = service.end }

-- ---- as `clap` is told of them

abbrev pub logged_serve_app : App
logged_serve_app = with_rule (with_rule served_app log_rule) end_rule

abbrev pub logged_serve_program_app : App
logged_serve_program_app = with_subcommand top_app logged_serve_app.top
