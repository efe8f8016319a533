-- What the last entry said.
use Rattle.std.specs.Prelude.{ℕ, ◌==◌, ◌&&◌, ◌||◌, Bool, List, [], ◌∷◌, if◌then◌else◌, Option, Some, None}
use Rattle.campaign_law.specs.declared.entry.Entry.{Entry}
use Rattle.campaign_law.specs.Messages.{Message}
use Rattle.campaign_law.specs.Outcome.{seat_of}
use Rattle.campaign_law.specs.World.{World, seat_at, outcome_of, is_present, is_to, messages_to, step}

-- what an entry says to a seat that is there
abbrev pub said_by : World → Entry → ℕ → List (List ℕ)
said_by w e seat = if is_present (seat_of e == seat) (seat_at w seat) (outcome_of w e) then messages_to seat (outcome_of w e) else []

-- the last entry of a history, and the world before it
pub record Last : Type 0 where
  pub world : World
  pub entry : Entry

-- of a history that begins with this entry
abbrev pub last_from : World → Entry → List Entry → Last
last_from w e [] = record { world = w; entry = e }
last_from w e (d ∷ h) = last_from (step w e) d h

abbrev pub last_of : World → List Entry → Option Last
last_of w [] = None
last_of w (e ∷ h) = Some (last_from w e h)

abbrev pub said_in : ℕ → Option Last → List (List ℕ)
said_in seat None = []
said_in seat (Some last) = said_by last.world last.entry seat

-- what the last entry of a history said to a seat: no line or one
abbrev pub last_said : World → List Entry → ℕ → List (List ℕ)
last_said w h seat = said_in seat (last_of w h)

-- ---- by the messages that are kept

abbrev pub messages_in : Option Last → List Message
messages_in None = []
messages_in (Some last) = (outcome_of last.world last.entry).messages

-- the messages of the last entry
abbrev pub last_messages : World → List Entry → List Message
last_messages w h = messages_in (last_of w h)

-- a seat that is Joined now, or isn't, heard this one of them: it said it itself, or is Joined still
abbrev pub is_heard : ℕ → Bool → Message → Bool
is_heard seat joined m = is_to seat m && (joined || (m.from == seat))
