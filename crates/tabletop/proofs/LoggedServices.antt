-- The number of connections that words of an evening with a log ask for is in its range.
use Rattle.std.proofs.Common.{◌≡◌, ◌≤◌, Bool, true, false, List, [], ◌∷◌, Some, None, subst}
use Rattle.std.specs.Prelude.{Option, if◌then◌else◌, option_and_then}
use Rattle.command_words.specs.Words.{Text, Asked, Play, Check, Drill, Serve, Verify, Compare, is_file, serve}
use Rattle.command_words.specs.LoggedServe.{LoggedService, with_log, is_marked, ending, logged_serve_of}
use Rattle.tabletop.proofs.Services.{IsServable, serve_servable}

abbrev IsCounted : Option LoggedService → Type 0
IsCounted None = Unit {0}
IsCounted (Some service) = (1 ≤ service.count) × (service.count ≤ 1024)

either : (b : Bool) (x y : Option LoggedService) → IsCounted x → IsCounted y → IsCounted (if b then x else y)
either true x y first second = first
either false x y first second = second

with_log_counted : (log : Text) (job : Option Asked) → IsServable job → IsCounted (with_log log job)
with_log_counted log None is = tt
with_log_counted log (Some (Play file end)) is = tt
with_log_counted log (Some (Check file)) is = tt
with_log_counted log (Some (Drill number lines)) is = tt
with_log_counted log (Some (Serve file port count end)) is =
    either (is_file log) (Some (record { file = file; port = port; count = count; log = log; end = end })) None is tt
with_log_counted log (Some (Verify file script seat transcript)) is = tt
with_log_counted log (Some (Compare file script file2 script2 seat)) is = tt

ended_counted : (file port count log : Text) (end : Option Bool) → IsCounted (option_and_then (λ e. with_log log (serve file port count e)) end)
ended_counted file port count log None = tt
ended_counted file port count log (Some e) = with_log_counted log (serve file port count e) (serve_servable file port count e)

all_counted : (words : List Text) → IsCounted (logged_serve_of words)
all_counted [] = tt
all_counted (a ∷ []) = tt
all_counted (a ∷ b ∷ []) = tt
all_counted (a ∷ b ∷ c ∷ []) = tt
all_counted (a ∷ b ∷ c ∷ d ∷ []) = tt
all_counted (a ∷ b ∷ c ∷ d ∷ e ∷ []) = tt
all_counted (command ∷ file ∷ port ∷ count ∷ mark ∷ log ∷ last) =
    either (is_marked command mark) (option_and_then (λ e. with_log log (serve file port count e)) (ending last)) None (ended_counted file port count log (ending last)) tt

-- so many are from 1 to 1,024
pub logged_count : (words : List Text) (service : LoggedService) → logged_serve_of words ≡ Some service → (1 ≤ service.count) × (service.count ≤ 1024)
logged_count words service is = subst IsCounted is (all_counted words)
