-- Tests that tell whether two openings, or two items of traces, are equal.
use Rattle.std.specs.Prelude.{ℕ, ◌==◌, ◌&&◌, Bool, true, false, List}
use Rattle.std.specs.Option.{option_eq}
use Rattle.std.specs.Str.{bytes_eq}
use Rattle.std.specs.Cmp.Lexicographic.{pointwise}
use Rattle.seats.specs.Book.{Book}
use Rattle.seats.specs.declared.seat_state.SeatState.{SeatState}
use Rattle.seats.specs.declared.seat_state.SeatState.TheVariants.{Free, Joined, Closing}
use Rattle.views.specs.Same.{same_bool, same_props, same_view}
use Rattle.campaign_law.specs.declared.entry.Entry.{Entry}
use Rattle.campaign_law.specs.declared.entry.Entry.TheVariants.{Join, Line, Leave, Taken, Cut}
use Rattle.campaign_law.specs.Player.{Opening, Item, own, message, view}

abbrev pub same_state : SeatState → SeatState → Bool
same_state Free Free = true
same_state (Joined reader writer) (Joined reader2 writer2) = (reader == reader2) && (writer == writer2)
same_state (Closing reader writer) (Closing reader2 writer2) = (reader == reader2) && (writer == writer2)
same_state s s2 = false

abbrev pub same_book : Book → Book → Bool
same_book a b =
    (a.seat == b.seat) && (bytes_eq a.key b.key && (bytes_eq a.seed b.seed && ((a.drawn == b.drawn)
    && (pointwise bytes_eq a.tags b.tags && ((a.lines == b.lines) && (same_state a.state b.state && same_props a.macros b.macros))))))

abbrev pub same_opening : Opening → Opening → Bool
same_opening a b = (a.seats == b.seats) && option_eq same_book a.book b.book

abbrev pub same_entry : Entry → Entry → Bool
same_entry (Join seat key reader writer) (Join seat2 key2 reader2 writer2) = (seat == seat2) && (bytes_eq key key2 && ((reader == reader2) && (writer == writer2)))
same_entry (Line seat bytes) (Line seat2 bytes2) = (seat == seat2) && bytes_eq bytes bytes2
same_entry (Leave seat drop) (Leave seat2 drop2) = (seat == seat2) && same_bool drop drop2
same_entry (Taken seat count) (Taken seat2 count2) = (seat == seat2) && (count == count2)
same_entry (Cut seat) (Cut seat2) = seat == seat2
same_entry e e2 = false

abbrev pub same_item : Item → Item → Bool
same_item (own e steps) (own e2 steps2) = same_entry e e2 && (steps == steps2)
same_item (message line) (message line2) = bytes_eq line line2
same_item (view v) (view v2) = same_view v v2
same_item item item2 = false
