-- The entries of a script, and how it ends. This project's own rules.
use Rattle.std.specs.Prelude.{◌≡◌, ℕ, zero, suc, ◌==◌, Bool, ◌||◌, nat_lt, List, [], ◌∷◌, ◌++◌, length, if◌then◌else◌, Option, Some, None, option_and_then}
use Rattle.std.specs.List.{AllByRecursion}
use Rattle.std.specs.Option.{option_map_or}
use Rattle.line_io.specs.Lines.{lines_of}
use Rattle.line_io.specs.Script.{script_parts}
use Rattle.campaign_law.specs.declared.entry.Entry.{Entry}
use Rattle.campaign_law.specs.declared.entry.Entry.TheVariants.{Join, Line, Taken}
use Rattle.command_json.specs.Commands.{command_of}
use Rattle.campaign_law.specs.Hellos.{hello_part}
use Rattle.campaign_law.specs.Seat.{Seat, was_joined}
use Rattle.campaign_law.specs.World.{World, seat_at, step, replay}

-- how a script ends
pub data Ending : Type 0 where
  -- its lines were all entered
  done : Ending
  -- the line of this number, from 1, is no line of a seat of the campaign
  bad_line : ℕ → Ending
  -- a line is too long, or there are too many
  too_large : Ending

pub record Script : Type 0 where
  pub entries : List Entry
  pub ending : Ending

-- no further entry
abbrev pub ends : Ending → Script
ends ending = record { entries = []; ending = ending }

-- these entries first
abbrev pub after_entries : List Entry → Script → Script
after_entries entries script = record script { entries = entries ++ script.entries }

-- ---- the entry of a line

-- the key of a hello that names this seat
abbrev pub key_for : ℕ → Option (ℕ × List ℕ) → Option (List ℕ)
key_for seat None = None
key_for seat (Some hello) = if hello.0 == seat then Some hello.1 else None

-- the key of a line by which the seat joins: a hello with its own number, while it isn't Joined
abbrev pub joining_key : World → ℕ → List ℕ → Option (List ℕ)
joining_key w seat bytes = if was_joined (seat_at w seat) then None else key_for seat (hello_part (command_of bytes (seat == 0)))

abbrev pub entry_by : ℕ → List ℕ → Option (List ℕ) → Entry
entry_by seat bytes (Some key) = Join seat key seat seat
entry_by seat bytes None = Line seat bytes

-- a line by which the seat joins is a Join with the seat's number as both pass numbers, every other line is a Line
abbrev pub entry_of : World → ℕ → List ℕ → Entry
entry_of w seat bytes = entry_by seat bytes (joining_key w seat bytes)

-- of a script line; none, where it has no seat of the campaign
abbrev pub entry_of_line : World → List ℕ → Option Entry
entry_of_line w line = option_and_then (λ parts. if nat_lt parts.0 (length w.seats) then Some (entry_of w parts.0 parts.1) else None) (script_parts line)

-- ---- the lines that wait are taken

-- a Taken of what was queued since the seat's Join, where lines of it wait
abbrev pub taken_of : ℕ → Option Seat → List Entry
taken_of seat None = []
taken_of seat (Some s) = if s.taken == s.queued then [] else Taken seat s.queued ∷ []

-- of the seats below this number, in ascending order
abbrev pub takens_below : World → ℕ → List Entry
takens_below w zero = []
takens_below w (suc seat) = takens_below w seat ++ taken_of seat (seat_at w seat)

unfoldable pub takens : World → List Entry
takens w = takens_below w (length w.seats)

-- a line's entry, and then what is taken
abbrev pub with_takens : World → Entry → List Entry
with_takens w e = e ∷ takens (step w e)

-- no line waits for any seat
abbrev pub NothingWaits : World → Type 0
NothingWaits w = AllByRecursion (λ s. s.taken ≡ s.queued) w.seats

-- ---- the script

-- it has at most 1,000,000 lines of at most 4,112 bytes
abbrev pub is_past_limits : ℕ → List ℕ → Bool
is_past_limits number line = nat_lt 1000000 number || nat_lt 4112 (length line)

-- of the lines from this number on, played from a world
unfoldable pub script_from : World → ℕ → List (List ℕ) → Script
script_from w number [] = ends done
script_from w number (line ∷ lines) =
    if is_past_limits number line then ends too_large
    else option_map_or (λ e. after_entries (with_takens w e) (script_from (replay w (with_takens w e)) (suc number) lines)) (entry_of_line w line) (ends (bad_line number))

-- of a text, played from a world
abbrev pub script_of : World → List ℕ → Script
script_of w text = script_from w 1 (lines_of text)
