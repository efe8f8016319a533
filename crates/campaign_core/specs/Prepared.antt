-- What an entry makes of a campaign, before any of it is put in its place.
use Rattle.std.specs.Prelude.{◌≡◌, ◌≤◌, ℕ, true, length, Some}
use Rattle.view_keep.specs.Kept.{Kept}
use Rattle.player_view.specs.View.{view_of}
use Rattle.campaign_law.specs.declared.entry.Entry.{Entry}
use Rattle.campaign_law.specs.Seat.{was_joined}
use Rattle.campaign_law.specs.World.{seat_at, step, steps_of, outcome_of, scene_after}
use Rattle.campaign_law.specs.State.{State, world_in, state_after}
use Rattle.campaign_law.specs.Law.{answer_of}
use Rattle.campaign_core.specs.declared.next.Prepared.{Prepared}
use Rattle.campaign_core.specs.Changed.{IsChanged, reach_of, scene_in}
use Rattle.campaign_core.specs.Places.{put_all}
use Rattle.campaign_core.specs.Shown.{placed_reaching, view_then}

-- it is what the entry makes of this state, with these fields and views kept
pub record IsPrepared (before : State) (kept : Kept) (e : Entry) (p : Prepared) : Type 0 where
  pub state : record { posts = put_all p.nexts.items before.posts; scene = scene_in before.scene p.changed } ≡ state_after before e
  pub changed : IsChanged (world_in before) e kept.fields p.changed
  pub nexts : length p.nexts.items ≤ length before.posts
  pub count : length p.views.items ≤ length before.posts
  pub views : (seat : ℕ) → was_joined (seat_at (step (world_in before) e) seat) ≡ true
      → view_then (placed_reaching (reach_of p.changed)) p.views.items kept.views seat ≡ Some (view_of (scene_after (world_in before) e) seat)
  pub said : p.said.items ≡ (outcome_of (world_in before) e).messages
  pub answer : p.answer ≡ answer_of (steps_of (world_in before) e) (outcome_of (world_in before) e)
