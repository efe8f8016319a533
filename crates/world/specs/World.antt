-- All of a campaign: its scene and its seats' books.
use Rattle.std.specs.Prelude.{◌≡◌, ◌≤◌, ℕ, zero, suc, ◌+◌, ◌-◌, Bool, true, false, List, [], ◌∷◌, length, Option, Some, None, slice_get, All}
use Rattle.std.specs.List.{list_all}
use Rattle.names.specs.declared.token_id.TokenId.{TokenId}
use Rattle.seats.specs.Book.{Book, tag_used}
use Rattle.seats.specs.declared.seat_state.SeatState.TheVariants.{Free}
use Rattle.tokens.specs.declared.token.Token.{Token}
use Rattle.world.specs.Scene.{Scene, bare}

pub record World : Type 0 where
  pub scene : Scene
  -- the game master's, then the players'
  pub books : List Book

-- each book's seat is the number of its place, where the first stands at this place
abbrev pub AreNumberedFrom : ℕ → List Book → Type 0
AreNumberedFrom place [] = Unit {0}
AreNumberedFrom place (book ∷ books) = (book.seat ≡ place) × AreNumberedFrom (place + 1) books

-- the seat of the book used the tag
abbrev pub used_by : Option Book → List ℕ → Bool
used_by None tag = false
used_by (Some book) tag = tag_used book.tags tag

-- the maker of the id used its tag
abbrev pub is_used : List Book → TokenId → Bool
is_used books id = used_by (slice_get books id.maker) id.tag

-- the maker of each token used its tag
abbrev pub are_used : List Book → List Token → Bool
are_used books tokens = list_all (λ t. is_used books t.id) tokens

-- what holds of every world: it has 1 to 33 seats, numbered by their places, all but the first are its scene's players,
-- and they made its tokens
pub record IsWorld (w : World) : Type 0 where
  pub least : 1 ≤ length w.books
  pub most : length w.books ≤ 33
  pub numbered : AreNumberedFrom 0 w.books
  pub players : w.scene.fog.players + 1 ≡ length w.books
  pub tags : are_used w.books w.scene.tokens ≡ true

-- the books that a world opens with: of 1 to 33 seats, numbered by their places, all of them Free
pub record IsOpening (books : List Book) : Type 0 where
  pub least : 1 ≤ length books
  pub most : length books ≤ 33
  pub numbered : AreNumberedFrom 0 books
  pub free : All (λ book. book.state ≡ Free) books

-- a world with these books and nothing else
abbrev pub opened : List Book → World
opened books = record { scene = bare (length books - 1); books = books }

-- the book at that place becomes f of it, and all others stay
abbrev pub changed_at : ℕ → (Book → Book) → List Book → List Book
changed_at place f [] = []
changed_at zero f (book ∷ books) = f book ∷ books
changed_at (suc place) f (book ∷ books) = book ∷ changed_at place f books

-- the book of that seat becomes f of it; all other books and the scene stay
abbrev pub with_book : ℕ → (Book → Book) → World → World
with_book seat f w = record w { books = changed_at seat f w.books }
