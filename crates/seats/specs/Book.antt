-- A seat's book, and what joins, lines and leaves do to it.
use Rattle.std.specs.Prelude.{◌≡◌, ◌<◌, ◌≤◌, ◌^◌, ℕ, ◌+◌, ◌==◌, nat_le, Bool, true, not, List, [], ◌∷◌, ◌++◌, length, if◌then◌else◌, Option, Some, None}
use Rattle.std.specs.List.{list_any, IsDistinct}
use Rattle.std.specs.Str.{bytes_eq}
use Rattle.std.specs.Map.{remove_entry}
use Rattle.std.specs.BTreeMap.{is_at}
use Rattle.names.specs.Tag.{tag_cmp}
use Rattle.type_table.specs.Types.{type_of, with_type, lacks_room}
use Rattle.seat_random.specs.Stream.{Stream}
use Rattle.seats.specs.declared.book_fault.BookFault.{BookFault}
use Rattle.seats.specs.declared.book_fault.BookFault.TheVariants.{MacroLimit, Memory}
use Rattle.seats.specs.declared.seat_state.SeatState.{SeatState}
use Rattle.seats.specs.declared.seat_state.SeatState.TheVariants.{Free, Joined}
use Rattle.seats.specs.declared.seat_state.JoinRefusal.{JoinRefusal}
use Rattle.seats.specs.declared.seat_state.JoinRefusal.TheVariants.{BadKey, SeatTaken, Spent}
use Rattle.seats.specs.SeatState.{is_free, is_joined, closed, blank_state}

pub record Book : Type 0 where
  pub seat : ℕ
  pub key : List ℕ
  -- 32 bytes
  pub seed : List ℕ
  -- how many words of the seed's stream were drawn
  pub drawn : ℕ
  -- the tags that the seat used, in order of use
  pub tags : List (List ℕ)
  -- how many lines were counted
  pub lines : ℕ
  pub state : SeatState
  -- the seat's macros: their names with their texts, in byte order of the names
  pub macros : List (List ℕ × List ℕ)

-- how many lines a seat has in one run
abbrev pub line_limit : ℕ
line_limit = 16384

-- where the count of drawn words turns over
abbrev pub drawn_limit : ℕ
drawn_limit = 2 ^ 62

-- how many tags a seat uses at most: seat 0 is the game master's
abbrev pub most_tags : ℕ → ℕ
most_tags seat = if seat == 0 then 2048 else 16

-- what holds of every book
pub record IsKept (seat : ℕ) (tags : List (List ℕ)) (lines : ℕ) (state : SeatState) : Type 0 where
  pub in_line_limit : lines ≤ line_limit
  -- the last line closes the seat
  pub lines_left : is_joined state ≡ true → lines < line_limit
  pub tags_differ : IsDistinct bytes_eq tags
  pub in_tag_limit : length tags ≤ most_tags seat

abbrev pub fresh_book : ℕ → List ℕ → List ℕ → ℕ → Book
fresh_book seat key seed drawn = record { seat = seat; key = key; seed = seed; drawn = drawn; tags = []; lines = 0; state = Free; macros = [] }

-- a book as it is when a campaign opens
pub record IsFresh (b : Book) : Type 0 where
  pub state : b.state ≡ Free
  pub lines : b.lines ≡ 0

-- without the numbers of passes
abbrev pub blank_book : Book → Book
blank_book b = record b { state = blank_state b.state }

-- one more line, the last of which closes the seat
abbrev pub counted : Book → Book
counted b = record b { lines = b.lines + 1; state = if b.lines + 1 == line_limit then closed b.state else b.state }

-- a session sits down by these passes, and its join counts as a line
abbrev pub joined : Book → ℕ → ℕ → Book
joined b reader writer = counted (record b { state = Joined reader writer })

-- a Joined seat's lines are no longer read
abbrev pub left : Book → Book
left b = record b { state = closed b.state }

abbrev pub freed : Book → Book
freed b = record b { state = Free }

-- why a session with this key can't join: the first that holds of another key, a seat that isn't Free, and all lines had
abbrev pub join_refusal : Book → List ℕ → Option JoinRefusal
join_refusal b key =
    if not (bytes_eq b.key key) then Some BadKey
    else (if not (is_free b.state) then Some SeatTaken
    else (if b.lines == line_limit then Some Spent
    else None))

-- ---- tags

abbrev pub tag_used : List (List ℕ) → List ℕ → Bool
tag_used tags tag = list_any (λ used. bytes_eq used tag) tags

-- whether a seat that used these tags has used all that it may
abbrev pub tags_spent : ℕ → List (List ℕ) → Bool
tags_spent seat tags = nat_le (most_tags seat) (length tags)

-- the tag is the last that was used
abbrev pub with_tag : Book → List ℕ → Book
with_tag b tag = record b { tags = b.tags ++ tag ∷ [] }

-- ---- macros

-- the text of the macro with this name
abbrev pub macro_of : List ℕ → List (List ℕ × List ℕ) → Option (List ℕ)
macro_of name macros = type_of name macros

-- the book with this text as the macro of that name: a name that is there takes it, and a new one goes to its place
abbrev pub with_macro : List ℕ → List ℕ → Book → Book
with_macro name text b = record b { macros = with_type name text b.macros }

-- the book without the macro of that name
abbrev pub without_macro : List ℕ → Book → Book
without_macro name b = record b { macros = remove_entry (is_at (tag_cmp name)) b.macros }

-- why a macro of that name can't be set: the name is new, and there are 32
abbrev pub macro_fault : List (List ℕ × List ℕ) → List ℕ → Option BookFault
macro_fault macros name = if lacks_room name macros then Some MacroLimit else None

-- the fault is the broken check, or want of memory where none is broken
abbrev pub IsBookFaultOf : Option BookFault → BookFault → Type 0
IsBookFaultOf None fault = fault ≡ Memory
IsBookFaultOf (Some broken) fault = fault ≡ broken

-- ---- dice

-- the stream of the seat's dice
abbrev pub stream_of : Book → Stream
stream_of b = record { seed = b.seed; drawn = b.drawn }

abbrev pub with_stream : Book → Stream → Book
with_stream b stream = record b { seed = stream.seed; drawn = stream.drawn }
