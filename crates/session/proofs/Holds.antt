-- A seat that a session holds.
use Rattle.std.proofs.Common.{◌≡◌, ℕ, ◌≤◌, Bool, true, false, eqb, ◌&&◌, ◌||◌, List, [], ◌∷◌, ◌++◌, length, take, drop, refl, sym, ◌∙◌, ap, subst, arith, ◌⊎◌, inl, inr}
use Rattle.std.specs.Prelude.{Option, Some, None, option_map, flat_map}
use Rattle.seats.specs.declared.seat_state.SeatState.{SeatState}
use Rattle.campaign_law.specs.Seat.{Seat}
use Rattle.std.proofs.lemmas.Option.{slice_get_past}
use Rattle.campaign_law.specs.declared.entry.Entry.{Entry}
use Rattle.campaign_law.specs.World.{World, seat_at, seat_after, step, replay}
use Rattle.seats.specs.SeatState.{is_joined}
use Rattle.seats.specs.declared.seat_state.SeatState.TheVariants.{Free, Joined, Closing}
use Rattle.campaign_law.specs.declared.entry.Entry.TheVariants.{Leave}
use Rattle.campaign_law.specs.Session.{session, waiting, standing, standing_after, is_held_by, leaves, changes_state}
use Rattle.campaign_law.proofs.Sessions.{replay_more}
use Rattle.campaign_law.proofs.Turns.{free_held}
use Rattle.campaign_law.specs.SessionLaws.{IsLeft}
use Rattle.campaign_law.specs.Cuts.{cuts, is_cut_by}
use Rattle.campaign_law.specs.Cuts.{is_cut as is_cut_entry}
use Rattle.campaign_law.specs.Outcome.{seat_of}
use Rattle.campaign_law.proofs.Leaves.{leave_stands}
use Rattle.campaign_law.proofs.Lists.{length-mapped_from}
use Rattle.session.specs.Held.{is_held, is_read, is_cut}
use Rattle.session.specs.Exchanged.{WaitsAs}
use Rattle.session.specs.Left.{Left}
use Rattle.session.specs.Spoken.{is_spent}
use Rattle.session.specs.declared.hold.Hold.{Hold}

length-replay : (w : World) (h : List Entry) → length (replay w h).seats ≡ length w.seats
length-replay w [] = refl
length-replay w (e ∷ h) = length-replay (step w e) h ∙ length-mapped_from (seat_after w e) 0 w.seats

-- nobody holds a seat that isn't there
pub no_seat_held : (w : World) (h : List Entry) (hold : Hold) → length w.seats ≤ hold.seat → is_held w h hold ≡ false
no_seat_held w h hold past = ap (λ s. is_held_by hold.reader hold.writer (standing s)) (slice_get_past (replay w h).seats hold.seat (let e = length-replay w h in omega (arith, e)))

-- and it isn't cut
cuts_none : (seat reader writer : ℕ) (before : Option Seat) (e : Entry) → before ≡ None → cuts seat reader writer (standing before) e ≡ false
cuts_none seat reader writer before e none = ap (λ s. cuts seat reader writer (standing s) e) none ∙ by_bools (is_cut_entry e) (eqb (seat_of e) seat)
  where
    by_bools : (a b : Bool) → (a && (b && false)) ≡ false
    by_bools true true = refl
    by_bools true false = refl
    by_bools false b = refl

no_seat_cut_by : (w : World) (es : List Entry) (seat reader writer : ℕ) → length w.seats ≤ seat → is_cut_by w es seat reader writer ≡ false
no_seat_cut_by w [] seat reader writer past = refl
no_seat_cut_by w (e ∷ es) seat reader writer past =
    let long = length-mapped_from (seat_after w e) 0 w.seats in
    λ i. cuts_none seat reader writer (seat_at w seat) e (slice_get_past w.seats seat past) i || no_seat_cut_by (step w e) es seat reader writer (omega (arith, long, past)) i

pub no_seat_cut : (w : World) (h : List Entry) (hold : Hold) → length w.seats ≤ hold.seat → is_cut w h hold ≡ false
no_seat_cut w h hold past = no_seat_cut_by (replay w (take hold.place h)) (drop hold.place h) hold.seat hold.reader hold.writer (let e = length-replay w (take hold.place h) in omega (arith, e, past))

-- how a seat that is there stands
pub state_held : (w : World) (h : List Entry) (hold : Hold) (state : SeatState) → Some state ≡ option_map (λ s. s.book.state) (seat_at (replay w h) hold.seat) → is_held_by hold.reader hold.writer state ≡ is_held w h hold
state_held w h hold state is = by_seat (seat_at (replay w h) hold.seat) is
  where
    by_seat : (s : Option Seat) → Some state ≡ option_map (λ s. s.book.state) s → is_held_by hold.reader hold.writer state ≡ is_held_by hold.reader hold.writer (standing s)
    by_seat None is = cc
    by_seat (Some s) is = ap (is_held_by hold.reader hold.writer) (cc)

-- the text of what waits, and how many lines it is
pub text_waits : (w : World) (h : List Entry) (hold : Hold) (count : ℕ) (text : List ℕ) (number : ℕ)
    → Some text ≡ option_map (λ s. flat_map (λ line. line) (waiting count s.taken (session w h hold.seat))) (seat_at (replay w h) hold.seat)
    → Some number ≡ option_map (λ s. length (waiting count s.taken (session w h hold.seat))) (seat_at (replay w h) hold.seat) → WaitsAs w h hold count text number
text_waits w h hold count text number told counted = by_seat (seat_at (replay w h) hold.seat) refl told counted
  where
    by_seat : (s : Option Seat) → seat_at (replay w h) hold.seat ≡ s → Some text ≡ option_map (λ s. flat_map (λ line. line) (waiting count s.taken (session w h hold.seat))) s
        → Some number ≡ option_map (λ s. length (waiting count s.taken (session w h hold.seat))) s → WaitsAs w h hold count text number
    by_seat None is told counted = cc
    by_seat (Some s) is told counted = record {
      lines = waiting count s.taken (session w h hold.seat);
      waits = sym (ap (option_map (λ s. waiting count s.taken (session w h hold.seat))) is);
      text_is = cc (told);
      number_is = cc (counted);
    }

-- ---- a Leave

-- one that drops moves a seat that its passes hold, and so does each of a Joined one
pub leave_moves : (w : World) (h : List Entry) (hold : Hold) (drop : Bool) → is_held w h hold ≡ true → (drop ≡ true) ⊎ (is_joined (standing_after w h hold.seat) ≡ true) → changes_state (replay w h) (Leave hold.seat drop) ≡ true
leave_moves w h hold drop held which = by_state (standing_after w h hold.seat) held which
  where
    by_state : (state : SeatState) → is_held_by hold.reader hold.writer state ≡ true → (drop ≡ true) ⊎ (is_joined state ≡ true) → leaves state drop ≡ true
    by_state Free held which = cc
    by_state (Joined reader writer) held which = refl
    by_state (Closing reader writer) held (inl is) = is
    by_state (Closing reader writer) held (inr is) = cc

and_false : (a b : Bool) → b ≡ false → (a && b) ≡ false
and_false true b h = h
and_false false b h = refl

after_leave : (w : World) (h : List Entry) (hold : Hold) (drop : Bool) → IsLeft drop (standing_after w (h ++ Leave hold.seat drop ∷ []) hold.seat)
after_leave w h hold drop = subst (λ v. IsLeft drop (standing (seat_at v hold.seat))) (sym (replay_more w h (Leave hold.seat drop))) (leave_stands (replay w h) hold.seat drop)

pub leave_left : (w : World) (h : List Entry) (hold : Hold) (drop : Bool) → is_held w h hold ≡ true → Left w hold drop h true (h ++ Leave hold.seat drop ∷ [])
leave_left w h hold drop held = record {
  held = λ _. held;
  closed = and_false (is_held w (h ++ Leave hold.seat drop ∷ []) hold) _ (after_leave w h hold drop).closed;
  gone = λ d. free_held hold.reader hold.writer (standing_after w (h ++ Leave hold.seat drop ∷ []) hold.seat) ((after_leave w h hold drop).freed d);
}

pub not_left : (w : World) (h : List Entry) (hold : Hold) (drop : Bool) → is_held w h hold ≡ false → Left w hold drop h false h
not_left w h hold drop none = record { held = λ e. cc; closed = ap (λ b. b && is_joined (standing_after w h hold.seat)) none; gone = λ _. none }

pub closed_left : (w : World) (h : List Entry) (hold : Hold) (state : SeatState) → Some state ≡ option_map (λ s. s.book.state) (seat_at (replay w h) hold.seat) → is_joined state ≡ false → Left w hold false h false h
closed_left w h hold state is closed = record { held = λ e. cc; closed = and_false (is_held w h hold) _ (by_seat (seat_at (replay w h) hold.seat) is); gone = λ d. cc }
  where
    by_seat : (s : Option Seat) → Some state ≡ option_map (λ s. s.book.state) s → is_joined (standing s) ≡ false
    by_seat None is = refl
    by_seat (Some s) is = ap is_joined (sym (state_is s is)) ∙ closed
      where
        state_is : (s : Seat) → Some state ≡ Some s.book.state → state ≡ s.book.state
        state_is s e = cc

pub joined_state : (w : World) (h : List Entry) (hold : Hold) (state : SeatState) → Some state ≡ option_map (λ s. s.book.state) (seat_at (replay w h) hold.seat) → is_joined state ≡ true → is_joined (standing_after w h hold.seat) ≡ true
joined_state w h hold state is joined = by_seat (seat_at (replay w h) hold.seat) is
  where
    by_seat : (s : Option Seat) → Some state ≡ option_map (λ s. s.book.state) s → is_joined (standing s) ≡ true
    by_seat None is = cc
    by_seat (Some s) is = ap is_joined (state_is s is) ∙ joined
      where
        state_is : (s : Seat) → Some state ≡ Some s.book.state → s.book.state ≡ state
        state_is s e = cc

pub not_read : (w : World) (h : List Entry) (hold : Hold) → is_held w h hold ≡ false → is_read w h hold ≡ false
not_read w h hold none = ap (λ b. b && is_joined (standing_after w h hold.seat)) none

pub read_state : (w : World) (h : List Entry) (hold : Hold) (state : SeatState) → is_held w h hold ≡ true → Some state ≡ option_map (λ s. s.book.state) (seat_at (replay w h) hold.seat) → is_joined state ≡ is_read w h hold
read_state w h hold state held is = by_seat (seat_at (replay w h) hold.seat) is ∙ sym (ap (λ b. b && is_joined (standing_after w h hold.seat)) held)
  where
    by_seat : (s : Option Seat) → Some state ≡ option_map (λ s. s.book.state) s → is_joined state ≡ is_joined (standing s)
    by_seat None is = cc
    by_seat (Some s) is = ap is_joined (state_is s is)
      where
        state_is : (s : Seat) → Some state ≡ Some s.book.state → state ≡ s.book.state
        state_is s e = cc

pub no_seat_spent : (w : World) (h : List Entry) (hold : Hold) → length w.seats ≤ hold.seat → is_spent (seat_at (replay w h) hold.seat) ≡ false
no_seat_spent w h hold past = ap is_spent (slice_get_past (replay w h).seats hold.seat (let e = length-replay w h in omega (arith, e)))

pub lines_spent : (w : World) (h : List Entry) (hold : Hold) (count : ℕ) → Some count ≡ option_map (λ s. s.book.lines) (seat_at (replay w h) hold.seat) → eqb count 16384 ≡ is_spent (seat_at (replay w h) hold.seat)
lines_spent w h hold count is = by_seat (seat_at (replay w h) hold.seat) is
  where
    by_seat : (s : Option Seat) → Some count ≡ option_map (λ s. s.book.lines) s → eqb count 16384 ≡ is_spent s
    by_seat None is = cc
    by_seat (Some s) is = ap (λ n. eqb n 16384) (count_is s is)
      where
        count_is : (s : Seat) → Some count ≡ Some s.book.lines → count ≡ s.book.lines
        count_is s e = cc
