-- A Taken, by the post of its seat alone.
use Rattle.std.specs.Prelude.{ℕ, ◌-◌, ◌==◌, Bool, true, false, List, drop, if◌then◌else◌}
use Rattle.campaign_law.specs.declared.entry.Entry.{Entry}
use Rattle.campaign_law.specs.declared.entry.Entry.TheVariants.{Taken}
use Rattle.campaign_law.specs.Seat.{Seat, let_go, taken_to}
use Rattle.campaign_law.specs.World.{mapped_from}
use Rattle.campaign_law.specs.State.{Post}
use Rattle.campaign_core.specs.Leaving.{mail_of}

abbrev pub is_taken : Entry → Bool
is_taken (Taken seat count) = true
is_taken e = false

-- how many lines of the session were taken by it, as far as is known
abbrev pub count_in : Entry → ℕ
count_in (Taken seat count) = count
count_in e = 0

abbrev pub taken_seat : ℕ → Seat → Seat
taken_seat count s = let_go (record s { taken = taken_to count s.queued s.taken })

-- a post after a Taken of its seat
abbrev pub taken_post : ℕ → Post → Post
taken_post count post = let next = taken_seat count post.seat in record { seat = next; mail = mail_of next (drop (next.taken - post.seat.taken) post.mail) }

abbrev pub taken_posts : ℕ → ℕ → List Post → List Post
taken_posts seat count posts = mapped_from (λ p post. if seat == p then taken_post count post else post) 0 posts
