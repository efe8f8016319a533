-- What is counted of a script that is played: its lines, and the lines that they send.
use Rattle.std.specs.Prelude.{◌≡◌, ◌≤◌, ℕ, zero, suc, ◌+◌, Bool, true, false, ◌&&◌, List, [], ◌∷◌, ◌++◌, length, if◌then◌else◌, is_some}
use Rattle.campaign_law.specs.declared.entry.Entry.{Entry}
use Rattle.campaign_law.specs.declared.entry.Entry.TheVariants.{Join, Line}
use Rattle.campaign_law.specs.World.{World, lines_of, outcome_of, step}
use Rattle.campaign_law.specs.Law.{Course, bytes_of, world_of}
use Rattle.campaign_core.specs.Looking.{looks_at}
use Rattle.script_play.specs.declared.tally.Tally.{Tally}
use Rattle.script_play.specs.Played.{entries_since}

-- ---- counts

abbrev pub one_if : Bool → ℕ
one_if b = if b then 1 else 0

abbrev pub no_tally : Tally
no_tally = record { lines = 0; refused = 0; sent = 0; bytes = 0 }

-- one more line was entered
abbrev pub with_line : Tally → Bool → Tally
with_line t refused = record t { lines = t.lines + 1; refused = t.refused + one_if refused }

-- so many more lines were sent, and so many bytes of them
abbrev pub with_text : Tally → ℕ → ℕ → Tally
with_text t lines bytes = record t { sent = t.sent + lines; bytes = t.bytes + bytes }

-- these lines were sent, each with its LF
abbrev pub with_sent : Tally → List (List ℕ) → Tally
with_sent t lines = with_text t (length lines) (length (bytes_of lines))

-- ---- what entries come to

-- it is a line of the script, and no Taken
abbrev pub is_line : Entry → Bool
is_line (Join seat key reader writer) = true
is_line (Line seat bytes) = true
is_line e = false

-- a line that is refused
abbrev pub is_refused : World → Entry → Bool
is_refused w e = is_line e && is_some (outcome_of w e).refusal

-- how many of the entries are lines
unfoldable pub lines_in : List Entry → ℕ
lines_in [] = 0
lines_in (e ∷ es) = one_if (is_line e) + lines_in es

-- how many of the entries from a world are lines that are refused
unfoldable pub refused_in : World → List Entry → ℕ
refused_in w [] = 0
refused_in w (e ∷ es) = one_if (is_refused w e) + refused_in (step w e) es

-- the lines that an entry sends to the seats below this number
abbrev pub entry_lines_below : World → Entry → ℕ → List (List ℕ)
entry_lines_below w e zero = []
entry_lines_below w e (suc seat) = entry_lines_below w e seat ++ lines_of w e seat

-- the lines that the entries from a world send to the seats 0 to 32, without the seats' numbers
unfoldable pub lines_sent : World → List Entry → List (List ℕ)
lines_sent w [] = []
lines_sent w (e ∷ es) = entry_lines_below w e 33 ++ lines_sent (step w e) es

-- the greatest number of looks that the entries from a world take
unfoldable pub looks_in : World → List Entry → ℕ
looks_in w [] = 0
looks_in w (e ∷ es) = looks_at w e + looks_in (step w e) es

-- what was counted of the entries of a campaign behind those that it had, and how many looks they took at most
pub record Adds (before after : Tally) (old new : Course) : Type 0 where
  pub lines : after.lines ≡ before.lines + lines_in (entries_since old new)
  pub refused : after.refused ≡ before.refused + refused_in (world_of old) (entries_since old new)
  pub sent : after.sent ≡ before.sent + length (lines_sent (world_of old) (entries_since old new))
  pub bytes : after.bytes ≡ before.bytes + length (bytes_of (lines_sent (world_of old) (entries_since old new)))
  pub looks : new.looks ≤ old.looks + looks_in (world_of old) (entries_since old new)
