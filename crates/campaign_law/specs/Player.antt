-- The player machine, which holds no world.
use Rattle.std.specs.Prelude.{ℕ, ◌==◌, ◌&&◌, ◌||◌, Bool, true, false, List, [], ◌∷◌, ◌++◌, length, map, if◌then◌else◌, Option, option_map, is_some}
use Rattle.seats.specs.Book.{Book, blank_book}
use Rattle.campaign_law.specs.declared.entry.Entry.{Entry}
use Rattle.views.specs.declared.view.View.{View}
use Rattle.player_view.specs.View.{view_of, no_view}
use Rattle.player_view.specs.Asked.{asked_of_view}
use Rattle.campaign_law.specs.Views.{change_line}
use Rattle.campaign_law.specs.Seat.{Seat, fresh_seat, settled}
use Rattle.campaign_law.specs.Outcome.{Outcome, of_steps, outcome_at, seat_of, blank_entry}
use Rattle.campaign_law.specs.World.{World, seat_at, outcome_of, steps_of, scene_after, is_present, view_lines, messages_to, queued_reply, changed, step}

-- ---- what a player may know: its opening and its trace

pub record Opening : Type 0 where
  -- the seat's book without pass numbers; none, where there is no such seat
  pub book : Option Book
  pub seats : ℕ

abbrev pub opening : World → ℕ → Opening
opening w seat = record { book = option_map (λ s. blank_book s.book) (seat_at w seat); seats = length w.seats }

pub data Item : Type 0 where
  -- the seat's own entry without pass numbers, and the steps of an accepted move, else 0
  own : Entry → ℕ → Item
  -- a line that another seat's entry addressed to it
  message : List ℕ → Item
  -- what it is shown, where this differs from before or the full line is due
  view : View → Item

abbrev pub view_items : Bool → View → View → List Item
view_items full v v' = if full || is_some (change_line v v') then view v' ∷ [] else []

abbrev pub message_items : ℕ → Bool → Outcome → List Item
message_items seat acts o = if acts then [] else map message (messages_to seat o)

abbrev pub items_if_present : ℕ → Bool → Outcome → View → View → Bool → List Item
items_if_present seat acts o v v' present = if present then message_items seat acts o ++ view_items (acts && o.full) v v' else []

-- the items of an entry for a seat
abbrev pub entry_items : ℕ → Bool → Option Seat → Entry → ℕ → Outcome → View → View → List Item
entry_items seat acts before e steps o v v' = (if acts then own (blank_entry e) steps ∷ [] else []) ++ items_if_present seat acts o v v' (is_present acts before o)

abbrev pub items_of : World → Entry → ℕ → List Item
items_of w e seat = entry_items seat (seat_of e == seat) (seat_at w seat) e (steps_of w e) (outcome_of w e) (view_of w.scene seat) (view_of (scene_after w e) seat)

abbrev pub trace : World → List Entry → ℕ → List Item
trace w [] seat = []
trace w (e ∷ es) seat = items_of w e seat ++ trace (step w e) es seat

-- ---- the machine

pub record Machine : Type 0 where
  pub seat : Option Seat
  pub seats : ℕ
  -- the last view
  pub last : View
  -- the full line is due
  pub due : Bool

abbrev pub own_outcome : Machine → Entry → ℕ → Outcome
own_outcome m e steps = outcome_at (asked_of_view m.seats m.last) (of_steps steps) m.seat e

-- what the machine says to itself
abbrev pub own_messages : Option Seat → ℕ → Outcome → List (List ℕ)
own_messages before seat o = if is_present true before o then messages_to seat o else []

abbrev pub queued_own : Option Seat → ℕ → Outcome → List (List ℕ)
queued_own before seat o = queued_reply o ++ own_messages before seat o

abbrev pub printed : Machine → Item → List (List ℕ)
printed m (own e steps) = (own_outcome m e steps).reply ++ own_messages m.seat (seat_of e) (own_outcome m e steps)
printed m (message line) = line ∷ []
printed m (view v) = view_lines m.due m.last v

abbrev pub after_own : Machine → ℕ → Outcome → Machine
after_own m seat o = record m { seat = option_map (λ s. settled (length (queued_own m.seat seat o)) (changed o true s)) m.seat; due = m.due || o.full }

abbrev pub after : Machine → Item → Machine
after m (own e steps) = after_own m (seat_of e) (own_outcome m e steps)
after m (message line) = record m { seat = option_map (settled 1) m.seat }
after m (view v) = record m { seat = option_map (settled (length (view_lines m.due m.last v))) m.seat; last = v; due = false }

abbrev pub run : Machine → List Item → List (List ℕ)
run m [] = []
run m (item ∷ items) = printed m item ++ run (after m item) items

abbrev pub started : Opening → Machine
started o = record { seat = option_map fresh_seat o.book; seats = o.seats; last = no_view; due = false }

-- what the machine prints
abbrev pub machine : Opening → List Item → List (List ℕ)
machine o items = run (started o) items
