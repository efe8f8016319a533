-- The words of a script that is played with a log, without the program's name:
--   play FILE --log LOG [--end]
use Rattle.std.specs.Prelude.{Bool, true, false, ◌&&◌, List, [], ◌∷◌, if◌then◌else◌, Option, Some, None, codes}
use Rattle.std.specs.Str.{bytes_eq}
use Rattle.clap.specs.Words.{App, Rule, new_rule, with_rule, with_subcommand}
use Rattle.clap.specs.declared.builder.action.ArgAction.TheVariants.{Set}
use Rattle.command_words.specs.Words.{Text, is_file, is_end}
use Rattle.command_words.specs.Program.{value_rule, end_rule, plain_app, top_app}
use Rattle.command_words.specs.declared.logged.LoggedPlay.{LoggedPlay}

-- what the words ask for: the campaign's file, the log's file, and whether the campaign is written at the end
pub record AskedLogged : Type 0 where
  pub file : Text
  pub log : Text
  pub end : Bool

-- both are names of files
abbrev pub with_files : Text → Text → Bool → Option AskedLogged
with_files file log end = if is_file file && is_file log then Some (record { file = file; log = log; end = end }) else None

-- these are the first word and the third
abbrev pub is_marked : Text → Text → Bool
is_marked command mark = bytes_eq command (codes "play") && bytes_eq mark (codes "--log")

-- what the words ask for; none, where they are not these
abbrev pub logged_of : List Text → Option AskedLogged
logged_of (command ∷ file ∷ mark ∷ log ∷ []) = if is_marked command mark then with_files file log false else None
logged_of (command ∷ file ∷ mark ∷ log ∷ last ∷ []) = if is_marked command mark && is_end last then with_files file log true else None
logged_of _ = None

-- by the bytes of its texts
abbrev pub asked_logged : LoggedPlay → AskedLogged
asked_logged play = record { file = play.file.now; log = play.log.now; end = play.end }

-- ---- as `clap` is told of them

abbrev pub log_rule : Rule
log_rule = record (new_rule (codes "log")) { required = true; long = Some (codes "log"); action = Some Set }

abbrev pub logged_play_app : App
logged_play_app = with_rule (with_rule (with_rule (plain_app (codes "play")) (value_rule (codes "file"))) log_rule) end_rule

abbrev pub logged_program_app : App
logged_program_app = with_subcommand top_app logged_play_app.top
