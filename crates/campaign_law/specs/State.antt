-- What a running campaign keeps: its world, and beside each seat the lines that wait for it.
use Rattle.std.specs.Prelude.{ℕ, ◌==◌, ◌-◌, Bool, List, ◌++◌, [], map, drop, if◌then◌else◌, Some}
use Rattle.seats.specs.Book.{Book}
use Rattle.seats.specs.SeatState.{is_free}
use Rattle.campaign_law.specs.declared.entry.Entry.{Entry}
use Rattle.views.specs.declared.view.View.{View}
use Rattle.world.specs.Scene.{Scene}
use Rattle.player_view.specs.View.{view_of}
use Rattle.campaign_law.specs.Seat.{Seat, fresh_seat}
use Rattle.command_effects.specs.Settle.{settled}
use Rattle.campaign_law.specs.Outcome.{Outcome, seat_of}
use Rattle.campaign_law.specs.World.{World, outcome_of, scene_after, queued_lines, seat_by, mapped_from, replay}
use Rattle.campaign_law.specs.Session.{session}

-- a seat, and the lines of its session that weren't taken
pub record Post : Type 0 where
  pub seat : Seat
  pub mail : List (List ℕ)

pub record State : Type 0 where
  pub posts : List Post
  pub scene : Scene

abbrev pub opening_post : Book → Post
opening_post book = record { seat = fresh_seat book; mail = [] }

-- of a campaign that opens with these seats and this scene
abbrev pub opening_state : List Book → Scene → State
opening_state books scene = record { posts = map opening_post books; scene = settled scene }

abbrev pub world_in : State → World
world_in state = record { seats = map (λ post. post.seat) state.posts; scene = state.scene }

-- the lines that wait after an entry which queued these
abbrev pub mail_after : Seat → Seat → List (List ℕ) → List (List ℕ) → List (List ℕ)
mail_after before after queued mail = if is_free after.book.state then [] else drop (after.taken - before.taken) mail ++ queued

abbrev pub post_by : ℕ → Bool → Outcome → View → View → Post → Post
post_by seat acts o v v' post = let next = seat_by seat acts o v v' post.seat in record { seat = next; mail = mail_after post.seat next (queued_lines seat acts (Some post.seat) o v v') post.mail }

abbrev pub post_after : World → Entry → ℕ → Post → Post
post_after w e seat post = post_by seat (seat_of e == seat) (outcome_of w e) (view_of w.scene seat) (view_of (scene_after w e) seat) post

abbrev pub state_after : State → Entry → State
state_after state e = record { posts = mapped_from (post_after (world_in state) e) 0 state.posts; scene = scene_after (world_in state) e }

-- after this history
abbrev pub post_of : World → List Entry → ℕ → Seat → Post
post_of w h seat s = record { seat = s; mail = drop s.taken (session w h seat) }

abbrev pub state_of : World → List Entry → State
state_of w h = let now = replay w h in record { posts = mapped_from (post_of w h) 0 now.seats; scene = now.scene }
