-- The jobs of the words that `tabletop` does.
use Rattle.std.specs.Prelude.{ℕ, List, Option, Some, None, option_and_then}
use Rattle.command_words.specs.Words.{Asked, Play, Check, Drill, Serve, Verify, Compare, job_of}

-- a script is played, a campaign checked, a drill made and played, a transcript checked, two histories compared; connections are served
-- by another call
abbrev pub done_here : Asked → Option Asked
done_here (Play file end) = Some (Play file end)
done_here (Check file) = Some (Check file)
done_here (Drill number lines) = Some (Drill number lines)
done_here (Serve file port count end) = None
done_here (Verify file script seat transcript) = Some (Verify file script seat transcript)
done_here (Compare file script file2 script2 seat) = Some (Compare file script file2 script2 seat)

-- the job of the words; none, where they are no form, or not one of these
abbrev pub job_in : List (List ℕ) → Option Asked
job_in words = option_and_then done_here (job_of words)
