-- What a turn does in which a session joins.
use Rattle.std.specs.Prelude.{◌≡◌, ◌⊎◌, ℕ, Bool, true, false, List, [], ◌∷◌, length, Option, Some, None, if◌then◌else◌}
use Rattle.campaign_law.specs.declared.entry.Entry.{Entry}
use Rattle.campaign_law.specs.declared.entry.Entry.TheVariants.{Join}
use Rattle.campaign_law.specs.declared.answer.Answer.{Answer}
use Rattle.campaign_law.specs.World.{World, seat_at, outcome_of, replay}
use Rattle.campaign_law.specs.Outcome.{Outcome, refusal_of_join}
use Rattle.seats.specs.declared.seat_state.JoinRefusal.{JoinRefusal}
use Rattle.campaign_law.specs.Law.{first_line}
use Rattle.campaign_law.specs.Session.{IsSeated}
use Rattle.session.specs.declared.hold.Hold.{Hold}
use Rattle.session.specs.declared.joining.Joined.{Joined}
use Rattle.session.specs.declared.joining.Joined.TheVariants.{Seated, Refused, Memory}
use Rattle.session.specs.Held.{is_read}
use Rattle.session.specs.Spoken.{is_spent}

abbrev pub join_entries : ℕ → Option (List ℕ) → ℕ → ℕ → List Entry
join_entries seat None reader writer = []
join_entries seat (Some key) reader writer = Join seat key reader writer ∷ []

-- the direct reply
abbrev pub direct_line : Outcome → Option (List ℕ)
direct_line o = if o.direct then first_line o.reply else None

-- the answer to a Join: it is accepted, or refused for a cause that a line tells
abbrev pub TellsJoin : Answer → Type 0
TellsJoin a = (a.refusal ≡ None) ⊎ ((refusal : JoinRefusal) × (line : List ℕ) × (a.refusal ≡ Some (refusal_of_join refusal)) × (a.line ≡ Some line))

-- an entry was refused for this cause, and this is the line that tells it
pub record IsRefusedBy (o : Outcome) (refusal : JoinRefusal) (line : List ℕ) : Type 0 where
  pub cause : o.refusal ≡ Some (refusal_of_join refusal)
  pub told : direct_line o ≡ Some line

-- The Join was accepted at this place, the last of the history. Where the seat's lines aren't read it was the last of them
pub record IsTaken (w : World) (hold : Hold) (before : List Entry) (reads : Bool) (after : List Entry) : Type 0 where
  pub last : hold.place ≡ length before
  pub seated : IsSeated w after hold.place hold.seat hold.reader hold.writer
  pub reads_is : reads ≡ is_read w after hold
  pub spent : reads ≡ false → is_spent (seat_at (replay w after) hold.seat) ≡ true
  pub unspent : reads ≡ true → is_spent (seat_at (replay w after) hold.seat) ≡ false

-- what follows the Join in a history that it is the last entry of
abbrev pub IsFollowed : World → Entry → ℕ → ℕ → ℕ → List Entry → Joined → List Entry → Type 0
IsFollowed w e seat reader writer before (Seated place reads) after = IsTaken w (record { seat = seat; place = place; reader = reader; writer = writer }) before reads after
IsFollowed w e seat reader writer before (Refused refusal line long) after = IsRefusedBy (outcome_of (replay w before) e) refusal line × (long ≡ length after)
IsFollowed w e seat reader writer before Memory after = ⊥

-- the turn found one history and left another
pub record Joins (w : World) (seat : ℕ) (key : Option (List ℕ)) (reader writer : ℕ) (before : List Entry) (entered : Bool) (joined : Joined) (after : List Entry) : Type 0 where
  pub not : entered ≡ false → joined ≡ Memory
  pub follows : entered ≡ true → (text : List ℕ) → key ≡ Some text → IsFollowed w (Join seat text reader writer) seat reader writer before joined after
