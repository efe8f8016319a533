-- Seats: their books, and what is exposed to them.
use Rattle.std.specs.Prelude.{◌≡◌, ◌≤◌, ℕ, ◌-◌, ◌+◌, not, List, [], ◌∷◌, ◌++◌, length, codes, Result, Ok}
use Rattle.serde_json.specs.Data.{Data}
use Rattle.json_fields.specs.Objects.{◌>>=◌}
use Rattle.seats.specs.Book.{Book, IsFresh, fresh_book, drawn_limit, most_tags, tag_used, tags_spent, with_tag}
use Rattle.world.specs.Scene.{Scene}
use Rattle.world.specs.World.{World}
use Rattle.campaign_json.specs.declared.faults.Rule.TheVariants.{Range, Twice}
use Rattle.campaign_json.specs.declared.faults.BadCampaign.{BadCampaign}
use Rattle.campaign_json.specs.Reading.{asked, field, under, each}
use Rattle.campaign_scene.specs.Fog.{fog}
use Rattle.campaign_file.specs.Macros.{macros}
use Rattle.campaign_json.specs.Kinds.{whole, text, list, object, only, seed, tag}

-- ---- tags

-- a tag that the seat used, after those before
unfoldable pub used_tag : Book → Data → Result Book BadCampaign
used_tag book d = do
  name ← tag d
  first ← asked Twice (not (tag_used book.tags name))
  room ← asked Range (not (tags_spent book.seat book.tags))
  Ok (with_tag book name)

-- the book with the tags that its seat used
unfoldable pub tags : Book → Data → Result Book BadCampaign
tags book d = do
  items ← field (codes "tags") (list 0 (most_tags book.seat)) d
  under (codes "tags") (each (λ place. used_tag) 0 book items)

-- the book with the tags and the macros of its seat
abbrev pub filled : Book → Data → Result Book BadCampaign
filled book d = do
  tagged ← tags book d
  macros tagged d

-- ---- seats

abbrev pub seat_keys : List (List ℕ)
seat_keys = codes "key" ∷ codes "seed" ∷ codes "drawn" ∷ codes "tags" ∷ codes "macros" ∷ codes "fog" ∷ []

-- the book of the seat at a place
unfoldable pub seat_book : ℕ → Data → Result Book BadCampaign
seat_book place d = do
  members ← object d
  key ← field (codes "key") (text 1 64) d
  seed ← field (codes "seed") seed d
  drawn ← field (codes "drawn") (whole 0 (drawn_limit - 1)) d
  book ← tags (fresh_book place key seed drawn) d
  macros book d

-- the book, and the scene with what is exposed to the seat at a place, which says nothing else
abbrev pub beside_fog : ℕ → Scene → Data → Book → Result (Book × Scene) BadCampaign
beside_fog place s d book = do
  exposed ← fog place s d
  no_others ← only seat_keys d
  Ok (book, exposed)

-- the book of the seat at a place, and the scene with what is exposed to it
unfoldable pub seat : ℕ → Scene → Data → Result (Book × Scene) BadCampaign
seat place s d = do
  book ← seat_book place d
  exposed ← fog place s d
  no_others ← only seat_keys d
  Ok (book, exposed)

-- a seat more, whose number is its place
unfoldable pub seated : ℕ → World → Data → Result World BadCampaign
seated place w d = do
  read ← seat place w.scene d
  Ok (record { scene = read.1; books = w.books ++ read.0 ∷ [] })

-- the scene with its seats
unfoldable pub seats : Scene → Data → Result World BadCampaign
seats s d = do
  items ← field (codes "seats") (list 1 33) d
  under (codes "seats") (each seated 0 (record { scene = s; books = [] }) items)

-- ---- what a campaign opens with

-- the book's seat is the one of this place, and nobody sat there yet
pub record IsFreshAt (place : ℕ) (book : Book) : Type 0 where
  pub seat : book.seat ≡ place
  pub fresh : IsFresh book

-- fresh books, numbered from the place on
abbrev pub AreFreshFrom : ℕ → List Book → Type 0
AreFreshFrom place [] = Unit {0}
AreFreshFrom place (book ∷ books) = IsFreshAt place book × AreFreshFrom (place + 1) books

-- 1 to 33 seats, the first of them the game master's, each numbered by its place
pub record IsOpening (books : List Book) : Type 0 where
  pub least : 1 ≤ length books
  pub most : length books ≤ 33
  pub fresh : AreFreshFrom 0 books
