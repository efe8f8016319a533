-- The states of a seat.
use Rattle.std.specs.Prelude.{Bool, true, false}
use Rattle.seats.specs.declared.seat_state.SeatState.{SeatState}
use Rattle.seats.specs.declared.seat_state.SeatState.TheVariants.{Free, Joined, Closing}

abbrev pub is_free : SeatState → Bool
is_free Free = true
is_free (Joined reader writer) = false
is_free (Closing reader writer) = false

abbrev pub is_joined : SeatState → Bool
is_joined Free = false
is_joined (Joined reader writer) = true
is_joined (Closing reader writer) = false

abbrev pub is_closing : SeatState → Bool
is_closing Free = false
is_closing (Joined reader writer) = false
is_closing (Closing reader writer) = true

-- a Joined seat becomes Closing
abbrev pub closed : SeatState → SeatState
closed Free = Free
closed (Joined reader writer) = Closing reader writer
closed (Closing reader writer) = Closing reader writer

-- without the numbers of passes
abbrev pub blank_state : SeatState → SeatState
blank_state Free = Free
blank_state (Joined reader writer) = Joined 0 0
blank_state (Closing reader writer) = Closing 0 0
