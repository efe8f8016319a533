-- What is sent after an entry: a direct reply, and the lines that wait.
use Rattle.std.specs.Prelude.{◌≡◌, ℕ, zero, suc, ◌==◌, List, [], ◌++◌, drop, if◌then◌else◌, Option, Some, None, Result, Ok, Err}
use Rattle.std.specs.Io.KnownBytes.{append_known}
use Rattle.campaign_law.specs.Seat.{Seat}
use Rattle.campaign_law.specs.World.{seat_at, some_to_list}
use Rattle.campaign_law.specs.Session.{session}
use Rattle.campaign_law.specs.Law.{Course, world_of}
use Rattle.script_play.specs.declared.run.Played.{Played}
use Rattle.script_play.specs.declared.run.Played.TheVariants.{Memory}
use Rattle.script_play.specs.Tagged.{tagged_lines, IsWholeLines}
use Rattle.script_play.specs.Played.{IsCutShort}

-- of a session, those that weren't taken
abbrev pub untaken : Option Seat → List (List ℕ) → List (List ℕ)
untaken None lines = []
untaken (Some s) lines = drop s.taken lines

-- the lines that wait for a seat
abbrev pub waiting_lines : Course → ℕ → List (List ℕ)
waiting_lines c seat = untaken (seat_at (world_of c) seat) (session c.origin c.history seat)

-- the direct reply, where this seat acted
abbrev pub reply_to : ℕ → ℕ → Option (List ℕ) → List (List ℕ)
reply_to acting seat reply = if acting == seat then some_to_list reply else []

-- what is sent to the seats below this number, in ascending order
abbrev pub sent_below : Course → ℕ → Option (List ℕ) → ℕ → List ℕ
sent_below c acting reply zero = []
sent_below c acting reply (suc seat) = sent_below c acting reply seat ++ tagged_lines seat (reply_to acting seat reply ++ waiting_lines c seat)

-- the lines that are sent to the seats below this number, without the seats' numbers
abbrev pub lines_below : Course → ℕ → Option (List ℕ) → ℕ → List (List ℕ)
lines_below c acting reply zero = []
lines_below c acting reply (suc seat) = lines_below c acting reply seat ++ (reply_to acting seat reply ++ waiting_lines c seat)

-- a front of the text was written
pub record WroteFront (before : Option (List ℕ)) (text : List ℕ) (after : Option (List ℕ)) : Type 0 where
  pub front : List ℕ
  pub rest : List ℕ
  pub is : text ≡ front ++ rest
  pub written : after ≡ append_known before front

-- at a stop within a line a front of the text was written; for want of memory whole lines of it
pub record WroteTill (stop : Played) (before : Option (List ℕ)) (text : List ℕ) (after : Option (List ℕ)) : Type 0 where
  pub cut : IsCutShort stop
  pub part : WroteFront before text after
  pub whole : stop ≡ Memory → IsWholeLines part.front

-- the text was written; after a stop a front of it
abbrev pub Sends : {A : Type 0} → Result A Played → List ℕ → Option (List ℕ) → Option (List ℕ) → Type 0
Sends (Ok value) text before after = after ≡ append_known before text
Sends (Err stop) text before after = WroteTill stop before text after
