-- What an entry is to a seat, from what is known of it before and from its answer.
use Rattle.std.specs.Prelude.{◌≡◌, ℕ, ◌==◌, ◌&&◌, ◌||◌, Bool, true, false, List, [], ◌∷◌, ◌++◌, map, Result, Ok, Err, Option, Some, None, if◌then◌else◌}
use Rattle.command_json.specs.declared.command.Command.{Command}
use Rattle.command_json.specs.declared.command.LineFault.{LineFault}
use Rattle.command_json.specs.Commands.{command_of}
use Rattle.views.specs.declared.view.View.{View}
use Rattle.player_view.specs.View.{view_of}
use Rattle.campaign_law.specs.declared.entry.Entry.{Entry}
use Rattle.campaign_law.specs.declared.entry.Entry.TheVariants.{Join, Line, Leave, Taken, Cut}
use Rattle.campaign_law.specs.Outcome.{blank_entry, is_look, seat_of}
use Rattle.campaign_law.specs.Seat.{was_joined}
use Rattle.campaign_law.specs.World.{World, seat_at}
use Rattle.campaign_law.specs.Player.{Item, own, message, view_items}
use Rattle.transcript_check.specs.declared.entering.Own.{Own}

-- ---- before it is entered

abbrev pub is_join : Entry → Bool
is_join (Join seat key reader writer) = true
is_join (Line seat bytes) = false
is_join (Leave seat drop) = false
is_join (Taken seat count) = false
is_join (Cut seat) = false

abbrev pub is_look_in : Result Command LineFault → Bool
is_look_in (Ok c) = is_look c
is_look_in (Err fault) = false

-- if it is accepted, the full line is due
abbrev pub asks_full : Entry → Bool
asks_full (Join seat key reader writer) = true
asks_full (Line seat bytes) = is_look_in (command_of bytes (seat == 0))
asks_full (Leave seat drop) = false
asks_full (Taken seat count) = false
asks_full (Cut seat) = false

-- what of it is its own seat's
abbrev pub own_of : Entry → Own
own_of e = record { entry = blank_entry e; joins = is_join e; asks = asks_full e }

-- where the seat acts
abbrev pub own_at : ℕ → Entry → Option Own
own_at seat e = if seat_of e == seat then Some (own_of e) else None

-- ---- its items

-- of a seat's own entry: whether the seat was Joined, whether the entry was accepted, the steps of its move, what the seat was last shown
-- and what it is shown then
abbrev pub own_items : Own → Bool → Bool → ℕ → View → View → List Item
own_items o joined accepted steps last now = own o.entry steps ∷ (if joined || (o.joins && accepted) then view_items (o.asks && accepted) last now else [])

-- of another's, which said this to it
abbrev pub others_items : Bool → List (List ℕ) → View → View → List Item
others_items joined said last now = if joined then map message said ++ view_items false last now else []

-- while the seat is Joined, it is shown what it was last shown
abbrev pub IsShown : World → ℕ → View → Type 0
IsShown w seat last = was_joined (seat_at w seat) ≡ true → last ≡ view_of w.scene seat
