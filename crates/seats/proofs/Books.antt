-- What happens to a book is the same with and without the numbers of passes, and other facts about states.
use Rattle.std.proofs.Common.{◌≡◌, ℕ, ◌+◌, Bool, true, false, cond, eqb, List, Some, None, refl, ap}
use Rattle.std.specs.Prelude.{not}
use Rattle.std.specs.Str.{bytes_eq}
use Rattle.seats.specs.declared.seat_state.SeatState.{SeatState}
use Rattle.seats.specs.declared.seat_state.SeatState.TheVariants.{Free, Joined, Closing}
use Rattle.seats.specs.declared.seat_state.JoinRefusal.TheVariants.{BadKey, SeatTaken, Spent}
use Rattle.seats.specs.SeatState.{is_free, is_joined, is_closing, closed, blank_state}
use Rattle.seats.specs.Book.{Book, blank_book, counted, joined, left, freed, join_refusal, line_limit}

-- ---- states

pub is_free-blank : (s : SeatState) → is_free (blank_state s) ≡ is_free s
is_free-blank Free = refl
is_free-blank (Joined reader writer) = refl
is_free-blank (Closing reader writer) = refl

pub is_joined-blank : (s : SeatState) → is_joined (blank_state s) ≡ is_joined s
is_joined-blank Free = refl
is_joined-blank (Joined reader writer) = refl
is_joined-blank (Closing reader writer) = refl

pub is_closing-blank : (s : SeatState) → is_closing (blank_state s) ≡ is_closing s
is_closing-blank Free = refl
is_closing-blank (Joined reader writer) = refl
is_closing-blank (Closing reader writer) = refl

pub blank-blank : (s : SeatState) → blank_state (blank_state s) ≡ blank_state s
blank-blank Free = refl
blank-blank (Joined reader writer) = refl
blank-blank (Closing reader writer) = refl

pub closed-blank : (s : SeatState) → closed (blank_state s) ≡ blank_state (closed s)
closed-blank Free = refl
closed-blank (Joined reader writer) = refl
closed-blank (Closing reader writer) = refl

pub closed-closed : (s : SeatState) → closed (closed s) ≡ closed s
closed-closed Free = refl
closed-closed (Joined reader writer) = refl
closed-closed (Closing reader writer) = refl

pub is_joined-closed : (s : SeatState) → is_joined (closed s) ≡ false
is_joined-closed Free = refl
is_joined-closed (Joined reader writer) = refl
is_joined-closed (Closing reader writer) = refl

pub is_free-closed : (s : SeatState) → is_free (closed s) ≡ is_free s
is_free-closed Free = refl
is_free-closed (Joined reader writer) = refl
is_free-closed (Closing reader writer) = refl

pub is_closing-closed : (s : SeatState) → is_closing (closed s) ≡ not (is_free s)
is_closing-closed Free = refl
is_closing-closed (Joined reader writer) = refl
is_closing-closed (Closing reader writer) = refl

-- a seat is in one state at a time
pub joined_not_closing : (s : SeatState) → is_joined s ≡ true → is_closing s ≡ false
joined_not_closing Free h = refl
joined_not_closing (Joined reader writer) h = refl
joined_not_closing (Closing reader writer) h = cc

pub joined_not_free : (s : SeatState) → is_joined s ≡ true → is_free s ≡ false
joined_not_free Free h = cc
joined_not_free (Joined reader writer) h = refl
joined_not_free (Closing reader writer) h = refl

pub closing_not_free : (s : SeatState) → is_closing s ≡ true → is_free s ≡ false
closing_not_free Free h = cc
closing_not_free (Joined reader writer) h = refl
closing_not_free (Closing reader writer) h = refl

-- ---- without the numbers of passes

closed_if-blank : (last : Bool) (s : SeatState) → cond last (closed (blank_state s)) (blank_state s) ≡ blank_state (cond last (closed s) s)
closed_if-blank true s = closed-blank s
closed_if-blank false s = refl

pub counted-blank : (b : Book) → counted (blank_book b) ≡ blank_book (counted b)
counted-blank b = ap (λ s. record b { lines = b.lines + 1; state = s }) (closed_if-blank (eqb (b.lines + 1) line_limit) b.state)

pub joined-blank : (b : Book) (reader writer : ℕ) → joined (blank_book b) 0 0 ≡ blank_book (joined b reader writer)
joined-blank b reader writer = counted-blank (record b { state = Joined reader writer })

pub left-blank : (b : Book) → left (blank_book b) ≡ blank_book (left b)
left-blank b = ap (λ s. record b { state = s }) (closed-blank b.state)

pub freed-blank : (b : Book) → freed (blank_book b) ≡ blank_book (freed b)
freed-blank b = refl

pub join_refusal-blank : (b : Book) (key : List ℕ) → join_refusal (blank_book b) key ≡ join_refusal b key
join_refusal-blank b key =
    ap (λ free. cond (not (bytes_eq b.key key)) (Some BadKey) (cond (not free) (Some SeatTaken) (cond (eqb b.lines line_limit) (Some Spent) None)))
    (is_free-blank b.state)

-- ---- what a line and a leave do to the state

is_joined-closed_if : (last : Bool) (s : SeatState) → is_joined (cond last (closed s) s) ≡ true → is_joined s ≡ true
is_joined-closed_if true Free h = h
is_joined-closed_if true (Joined reader writer) h = refl
is_joined-closed_if true (Closing reader writer) h = h
is_joined-closed_if false s h = h

-- no line makes a seat Joined
pub joined_before_line : (b : Book) → is_joined (counted b).state ≡ true → is_joined b.state ≡ true
joined_before_line b h = is_joined-closed_if (eqb (b.lines + 1) line_limit) b.state h

is_free-closed_if : (last : Bool) (s : SeatState) → is_free (cond last (closed s) s) ≡ is_free s
is_free-closed_if true s = is_free-closed s
is_free-closed_if false s = refl

-- no line makes a seat Free
pub is_free-counted : (b : Book) → is_free (counted b).state ≡ is_free b.state
is_free-counted b = is_free-closed_if (eqb (b.lines + 1) line_limit) b.state

-- who joined isn't Free, also by its last line
pub is_free-joined : (b : Book) (reader writer : ℕ) → is_free (joined b reader writer).state ≡ false
is_free-joined b reader writer = is_free-counted (record b { state = Joined reader writer })
