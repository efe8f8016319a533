-- Books that are numbered by their places.
use Rattle.std.proofs.Common.{◌≡◌, ℕ, zero, suc, ◌+◌, ◌<◌, List, [], ◌∷◌, length, get_or, arith}
use Rattle.seats.specs.Book.{Book}
use Rattle.world.specs.World.{AreNumberedFrom}

pub numbered_at : (books : List Book) (from k : ℕ) (d : Book) → AreNumberedFrom from books → k < length books → (get_or books k d).seat ≡ from + k
numbered_at [] from k d h low = absurd (omega arith)
numbered_at (book ∷ books) from zero d h low = let e : book.seat ≡ from = h.0 in omega arith
numbered_at (book ∷ books) from (suc k) d h low = let e : (get_or books k d).seat ≡ (from + 1) + k = numbered_at books (from + 1) k d h.1 (omega arith) in omega arith
