-- A campaign that has no entry yet.
use Rattle.std.proofs.Common.{◌≡◌, ℕ, true, false, [], Some, None, refl, sym, ◌∙◌, ap}
use Rattle.std.specs.Prelude.{Option, option_map, IfSome}
use Rattle.seats.specs.Book.{blank_book}
use Rattle.seats.specs.SeatState.{is_joined, blank_state}
use Rattle.campaign_law.specs.Seat.{Seat, IsFreshSeat, was_joined}
use Rattle.campaign_law.specs.World.{World, seat_at, replay}
use Rattle.campaign_law.specs.Law.{Course, IsOpening, world_of}
use Rattle.campaign_law.specs.Player.{trace}
use Rattle.campaign_law.proofs.Simulation.{fresh_at}
use Rattle.player_machine.specs.Items.{items_in}
use Rattle.transcript_check.specs.declared.tracing.Follower.{Follower}
use Rattle.transcript_check.specs.Tracing.{Follows}

pub begun_world : (c : Course) → c.history ≡ [] → world_of c ≡ c.origin
begun_world c none = ap (replay c.origin) none

fresh_waits : (before : Option Seat) → IfSome before IsFreshSeat → was_joined before ≡ true → false ≡ true
fresh_waits None fresh joined = joined
fresh_waits (Some s) fresh joined = sym (ap is_joined fresh.book.state) ∙ joined

-- nobody is Joined, so a seat follows with no item
pub begins : (c : Course) (f : Follower) → IsOpening c.origin → c.history ≡ [] → f.items.items ≡ [] → Follows c f
begins c f fresh none empty = record {
  items = ap items_in empty ∙ sym (ap (λ h. trace c.origin h f.seat) none);
  shown = λ joined. let z : false ≡ true = fresh_waits (seat_at c.origin f.seat) (fresh_at c.origin.seats f.seat fresh.seats) (sym (ap (λ (w : World). was_joined (seat_at w f.seat)) (begun_world c none)) ∙ joined) in cc;
}

-- its books have no pass numbers
blank_already : (before : Option Seat) → IfSome before IsFreshSeat → option_map (λ (s : Seat). s.book) before ≡ option_map (λ (s : Seat). blank_book s.book) before
blank_already None fresh = refl
blank_already (Some s) fresh = ap (λ state. Some (record s.book { state = state })) (fresh.book.state ∙ sym (ap blank_state fresh.book.state))

pub begun_book : (c : Course) (seat : ℕ) → IsOpening c.origin → c.history ≡ [] → option_map (λ (s : Seat). s.book) (seat_at (world_of c) seat) ≡ option_map (λ (s : Seat). blank_book s.book) (seat_at c.origin seat)
begun_book c seat fresh none =
    ap (λ (w : World). option_map (λ (s : Seat). s.book) (seat_at w seat)) (begun_world c none)
    ∙ blank_already (seat_at c.origin seat) (fresh_at c.origin.seats seat fresh.seats)
