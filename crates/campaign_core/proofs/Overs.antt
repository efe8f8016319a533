-- The least seat for which too much waits.
use Rattle.std.proofs.Common.{◌≡◌, ◌<◌, ℕ, suc, ◌+◌, ◌-◌, Bool, true, false, cond, ◌&&◌, List, [], ◌∷◌, length, drop, Some, None, refl, ◌∙◌, ap, arith}
use Rattle.std.specs.Prelude.{Option, slice_get, nat_lt, IfSome}
use Rattle.std.proofs.lemmas.Option.{slice_get_within}
use Rattle.mails.specs.Texts.{text_of}
use Rattle.seats.specs.SeatState.{is_joined}
use Rattle.campaign_law.specs.declared.entry.Entry.{Entry}
use Rattle.campaign_law.specs.Seat.{Seat}
use Rattle.campaign_law.specs.World.{World, mapped_from, replay, seat_at}
use Rattle.campaign_law.specs.Session.{session, standing}
use Rattle.campaign_law.specs.State.{State, post_of, state_of}
use Rattle.campaign_law.proofs.States.{length-replay}
use Rattle.campaign_core.specs.Over.{byte_limit, waiting_text, is_over, least_over, over_of, least_post_over}
use Rattle.campaign_core.proofs.Laws.{text_waits}

-- ---- by the posts

waits : (w : World) (h : List Entry) (seat : ℕ) (s : Seat) → text_of (drop s.taken (session w h seat)) ≡ waiting_text w h seat s
waits w h seat s =
    let none : 0 ≡ 0 - s.taken = omega arith in
    ap (λ n. text_of (drop n (drop s.taken (session w h seat)))) none ∙ text_waits 0 s.taken (drop s.taken (session w h seat)) (session w h seat) refl

by_posts : (w : World) (h : List Entry) (k : ℕ) (seats : List Seat) → least_post_over k (mapped_from (post_of w h) k seats) ≡ least_over w h k seats
by_posts w h k [] = refl
by_posts w h k (s ∷ seats) = λ i. cond (is_joined s.book.state && nat_lt byte_limit (length (waits w h k s i))) (Some k) (by_posts w h (suc k) seats i)

pub over_by_posts : (w : World) (h : List Entry) (state : State) → state ≡ state_of w h → least_post_over 0 state.posts ≡ over_of w h
over_by_posts w h state is = ap (λ (s : State). least_post_over 0 s.posts) is ∙ by_posts w h 0 (replay w h).seats

-- ---- it is Joined

-- the seat that is named, where they are numbered from k on
record IsNamed (k : ℕ) (seats : List Seat) (q : ℕ) : Type 0 where
  place : ℕ
  seat : Seat
  number : q ≡ k + place
  there : slice_get seats place ≡ Some seat
  joined : is_joined seat.book.state ≡ true

first_holds : (a b : Bool) → (a && b) ≡ true → a ≡ true
first_holds true b h = refl
first_holds false b h = cc

by_first : (w : World) (h : List Entry) (k : ℕ) (s : Seat) (seats : List Seat) (q : ℕ) (over : Bool) → is_over w h k s ≡ over → cond over (Some k) (least_over w h (suc k) seats) ≡ Some q → (least_over w h (suc k) seats ≡ Some q → IsNamed (suc k) seats q)
    → IsNamed k (s ∷ seats) q
by_first w h k s seats q true above at later =
    let here : k ≡ q = cc in
    record {
      place = 0;
      seat = s;
      number = omega (arith, here);
      there = refl;
      joined = first_holds (is_joined s.book.state) (nat_lt byte_limit (length (waiting_text w h k s))) above;
    }
by_first w h k s seats q false under at later =
    let rest = later at in
    let number = rest.number in
    record { place = suc rest.place; seat = rest.seat; number = omega (arith, number); there = rest.there; joined = rest.joined }

named : (w : World) (h : List Entry) (k : ℕ) (seats : List Seat) (q : ℕ) → least_over w h k seats ≡ Some q → IsNamed k seats q
named w h k [] q is = cc
named w h k (s ∷ seats) q is = by_first w h k s seats q (is_over w h k s) refl is (named w h (suc k) seats q)

pub over_joined : (w : World) (h : List Entry) (q : ℕ) → over_of w h ≡ Some q → is_joined (standing (seat_at (replay w h) q)) ≡ true
over_joined w h q is =
    let x = named w h 0 (replay w h).seats q is in
    let number = x.number in
    let place : q ≡ x.place = omega (arith, number) in
    ap (λ n. is_joined (standing (seat_at (replay w h) n))) place ∙ ap (λ o. is_joined (standing o)) x.there ∙ x.joined

pub over_there : (w : World) (h : List Entry) (q : ℕ) → over_of w h ≡ Some q → q < length w.seats
over_there w h q is =
    let x = named w h 0 (replay w h).seats q is in
    let number = x.number in
    let within = slice_get_within (replay w h).seats x.place x.seat x.there in
    let seats = length-replay w h in
    omega (arith, number, within, seats)

pub if_over : (o : Option ℕ) (P : ℕ → Type 0) → ((q : ℕ) → o ≡ Some q → P q) → IfSome o P
if_over None P h = tt
if_over (Some q) P h = h q refl
