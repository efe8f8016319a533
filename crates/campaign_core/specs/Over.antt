-- Seats for which too much waits.
use Rattle.std.specs.Prelude.{ℕ, suc, ◌&&◌, nat_lt, Bool, List, [], ◌∷◌, length, flat_map, if◌then◌else◌, Option, Some, None}
use Rattle.mails.specs.Texts.{text_of}
use Rattle.seats.specs.SeatState.{is_joined}
use Rattle.campaign_law.specs.declared.entry.Entry.{Entry}
use Rattle.campaign_law.specs.Seat.{Seat}
use Rattle.campaign_law.specs.World.{World, replay}
use Rattle.campaign_law.specs.Session.{session, waiting}
use Rattle.campaign_law.specs.State.{Post}

-- for a seat that is read no more bytes may wait
abbrev pub byte_limit : ℕ
byte_limit = 4194304

-- the text of the lines that wait for the seat, each with its LF
abbrev pub waiting_text : World → List Entry → ℕ → Seat → List ℕ
waiting_text w h seat s = flat_map (λ line. line) (waiting 0 s.taken (session w h seat))

-- it is Joined, and too much waits for it
abbrev pub is_over : World → List Entry → ℕ → Seat → Bool
is_over w h seat s = is_joined s.book.state && nat_lt byte_limit (length (waiting_text w h seat s))

-- the least of these seats, numbered from here on, for which this holds
abbrev pub least_over : World → List Entry → ℕ → List Seat → Option ℕ
least_over w h seat [] = None
least_over w h seat (s ∷ seats) = if is_over w h seat s then Some seat else least_over w h (suc seat) seats

-- the least seat of the campaign
abbrev pub over_of : World → List Entry → Option ℕ
over_of w h = least_over w h 0 (replay w h).seats

-- ---- the same by a post

-- with the lines that wait for it
abbrev pub is_post_over : Post → Bool
is_post_over post = is_joined post.seat.book.state && nat_lt byte_limit (length (text_of post.mail))

abbrev pub least_post_over : ℕ → List Post → Option ℕ
least_post_over seat [] = None
least_post_over seat (post ∷ posts) = if is_post_over post then Some seat else least_post_over (suc seat) posts
