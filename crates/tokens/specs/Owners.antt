-- The seats that own a token, as a number: bit k is 1 where seat k owns it.
use Rattle.std.specs.Prelude.{ℕ, ◌==◌, nat_eq, Bool, if◌then◌else◌, List}
use Rattle.std.specs.Int.{bit_at}
use Rattle.std.specs.List.{filter, range_with_len}
use Rattle.cells.specs.Cells.{row_where}

-- how many seats there are at most: the game master's, and 32 of players
abbrev pub seat_limit : ℕ
seat_limit = 33

abbrev pub has_owner : ℕ → ℕ → Bool
has_owner owners seat = nat_eq (bit_at owners seat) 1

-- the owners are the seats of which the test holds
unfoldable pub owners_where : (ℕ → Bool) → ℕ
owners_where test = row_where test seat_limit

-- the owners, with this seat among them or not
abbrev pub with_owner : ℕ → ℕ → Bool → ℕ
with_owner owners seat on = owners_where (λ k. if k == seat then on else has_owner owners k)

-- the owners' numbers, ascending
abbrev pub seats_of : ℕ → List ℕ
seats_of owners = filter (has_owner owners) (range_with_len 0 seat_limit)
