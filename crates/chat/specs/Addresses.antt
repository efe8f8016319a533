-- Whom an address reaches, and a set of seats as a number: bit k is 1 where seat k is in it.
use Rattle.std.specs.Prelude.{ℕ, ◌==◌, ◌||◌, nat_eq, nat_lt, Bool, true}
use Rattle.std.specs.Int.{bit_at}
use Rattle.chat.specs.declared.to.To.{To}
use Rattle.chat.specs.declared.to.To.TheVariants.{SelfOnly, Gm, GmSelf, All, Seat}

-- the game master's seat
abbrev pub gm_seat : ℕ
gm_seat = 0

-- whether a message of the seat `from` to this address reaches the seat, in a campaign of so many seats
abbrev pub is_addressed : To → ℕ → ℕ → ℕ → Bool
is_addressed SelfOnly from seats seat = seat == from
is_addressed Gm from seats seat = seat == gm_seat
is_addressed GmSelf from seats seat = seat == gm_seat || seat == from
is_addressed All from seats seat = nat_lt seat seats
is_addressed (Seat named) from seats seat = seat == named

-- whether a campaign of so many seats has the seat that the address names, if it names one
abbrev pub is_within : To → ℕ → Bool
is_within (Seat named) seats = nat_lt named seats
is_within to seats = true

-- whether the seat is in the set
abbrev pub has_seat : ℕ → ℕ → Bool
has_seat set seat = nat_eq (bit_at set seat) 1
