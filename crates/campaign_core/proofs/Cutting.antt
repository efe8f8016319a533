-- A Cut of a Joined seat is what a Leave of it is that drops lines.
use Rattle.std.proofs.Common.{◌≡◌, ◌≤◌, ℕ, ◌+◌, true, cond, length, Some, None, refl, sym, ◌∙◌, ap, arith, eqb}
use Rattle.std.specs.Prelude.{Option, option_map, slice_get}
use Rattle.std.proofs.lemmas.Option.{slice_get-map}
use Rattle.seats.specs.Book.{freed}
use Rattle.seats.specs.SeatState.{is_joined}
use Rattle.seats.specs.declared.seat_state.SeatState.{SeatState}
use Rattle.seats.specs.declared.seat_state.SeatState.TheVariants.{Free, Joined, Closing}
use Rattle.player_view.specs.Asked.{Asked}
use Rattle.player_view.specs.View.{view_of}
use Rattle.command_effects.specs.Effects.{steps_by}
use Rattle.command_effects.specs.Settle.{IsSettled}
use Rattle.command_effects.specs.Way.{after_by}
use Rattle.campaign_law.specs.declared.entry.Entry.{Entry}
use Rattle.campaign_law.specs.declared.entry.Entry.TheVariants.{Join, Line, Leave, Taken, Cut}
use Rattle.campaign_law.specs.Seat.{Seat}
use Rattle.campaign_law.specs.Outcome.{Outcome, Report, nothing, of_steps, outcome_at, seat_of}
use Rattle.campaign_law.specs.World.{World, seat_at, asked_of, dumped_of, report_of, steps_of, outcome_of, scene_after, seat_by, step, mapped_from}
use Rattle.campaign_law.specs.Session.{leaves, standing, changes_state}
use Rattle.campaign_law.specs.State.{Post, State, world_in, post_by, state_after}
use Rattle.campaign_law.specs.Law.{answer_of}
use Rattle.campaign_core.specs.Leaving.{left_posts, frees, due, cut_due_of, cut_due}
use Rattle.campaign_core.specs.Sound.{AreSound}
use Rattle.campaign_core.specs.CutList.{cut_of, cut_by}
use Rattle.campaign_core.proofs.Leaving.{state_in, leave_state, leave_answer, due_left, cut_there}

-- ---- a Cut

same_outcome : (asked : Asked) (report : Report) (before : Option Seat) (seat : ℕ) → is_joined (standing before) ≡ true → outcome_at asked report before (Cut seat) ≡ outcome_at asked report before (Leave seat true)
same_outcome asked report None seat joined = cc
same_outcome asked report (Some s) seat joined = ap (λ j. cond j (record nothing { book = Some (freed s.book) }) nothing) joined

same_steps : (w : World) (seat : ℕ) → is_joined (standing (seat_at w seat)) ≡ true → steps_of w (Cut seat) ≡ steps_of w (Leave seat true)
same_steps w seat joined = ap (λ (o : Outcome). steps_by w.scene seat o.done) (same_outcome (asked_of w seat) (of_steps 0) (seat_at w seat) seat joined)

cut_outcome_is : (w : World) (seat : ℕ) → is_joined (standing (seat_at w seat)) ≡ true → outcome_of w (Cut seat) ≡ outcome_of w (Leave seat true)
cut_outcome_is w seat joined =
    same_outcome (asked_of w seat) (report_of w (Cut seat)) (seat_at w seat) seat joined
    ∙ ap (λ n. outcome_at (asked_of w seat) (record { steps = n; dumped = dumped_of w seat }) (seat_at w seat) (Leave seat true)) (same_steps w seat joined)

cut_scene : (w : World) (seat : ℕ) → is_joined (standing (seat_at w seat)) ≡ true → scene_after w (Cut seat) ≡ scene_after w (Leave seat true)
unfolding scene_after
cut_scene w seat joined = λ i. after_by (same_steps w seat joined i) (cut_outcome_is w seat joined i).intents seat w.scene (cut_outcome_is w seat joined i).done

pub cut_step : (w : World) (seat : ℕ) → is_joined (standing (seat_at w seat)) ≡ true → step w (Cut seat) ≡ step w (Leave seat true)
cut_step w seat joined = λ i. record {
  seats = mapped_from (λ p s. seat_by p (eqb seat p) (cut_outcome_is w seat joined i) (view_of w.scene p) (view_of (cut_scene w seat joined i) p) s) 0 w.seats;
  scene = cut_scene w seat joined i;
}

cut_state : (state : State) (seat : ℕ) → is_joined (standing (seat_at (world_in state) seat)) ≡ true → state_after state (Cut seat) ≡ state_after state (Leave seat true)
cut_state state seat joined = let w : World = world_in state in (λ i. record {
  posts = mapped_from (λ p post. post_by p (eqb seat p) (cut_outcome_is w seat joined i) (view_of w.scene p) (view_of (cut_scene w seat joined i) p) post) 0 state.posts;
  scene = cut_scene w seat joined i;
})

joined_leaves : (state : SeatState) → is_joined state ≡ true → leaves state true ≡ true
joined_leaves Free h = cc
joined_leaves (Joined reader writer) h = refl
joined_leaves (Closing reader writer) h = cc

-- ---- entries that change their seat's state

pub moved_state : (state : State) (e : Entry) → changes_state (world_in state) e ≡ true → IsSettled state.scene → AreSound state.posts → record { posts = left_posts (seat_of e) (frees e) state.posts; scene = state.scene } ≡ state_after state e
moved_state state (Join seat key reader writer) moves settled sound = cc
moved_state state (Line seat bytes) moves settled sound = cc
moved_state state (Taken seat count) moves settled sound = cc
moved_state state (Leave seat drop_it) moves settled sound = leave_state state seat drop_it settled sound
moved_state state (Cut seat) moves settled sound = leave_state state seat true settled sound ∙ sym (cut_state state seat moves)

-- they have no answer
pub moved_answer : (w : World) (e : Entry) → changes_state w e ≡ true → record { refusal = None; taken = 0; line = None } ≡ answer_of (steps_of w e) (outcome_of w e)
moved_answer w (Join seat key reader writer) moves = cc
moved_answer w (Line seat bytes) moves = cc
moved_answer w (Taken seat count) moves = cc
moved_answer w (Leave seat drop_it) moves = leave_answer w seat drop_it
moved_answer w (Cut seat) moves = leave_answer w seat true ∙ sym (λ i. answer_of (same_steps w seat moves i) (cut_outcome_is w seat moves i))

-- they take one place or more of the history
pub moved_due : (state : State) (e : Entry) → changes_state (world_in state) e ≡ true → due (left_posts (seat_of e) (frees e) state.posts) + 1 ≤ due state.posts
moved_due state (Join seat key reader writer) moves = cc
moved_due state (Line seat bytes) moves = cc
moved_due state (Taken seat count) moves = cc
moved_due state (Leave seat drop_it) moves = due_left state seat drop_it moves
moved_due state (Cut seat) moves = due_left state seat true (joined_leaves (standing (seat_at (world_in state) seat)) moves)

cut_length : (place seat : ℕ) (state : SeatState) → length (cut_of place seat state) ≡ cut_due_of state
cut_length place seat Free = refl
cut_length place seat (Joined reader writer) = refl
cut_length place seat (Closing reader writer) = refl

stands_in : (o : Option Post) → standing (option_map (λ (p : Post). p.seat) o) ≡ state_in o
stands_in None = refl
stands_in (Some post) = refl

-- and the Cuts among them one of the list of cuts
pub moved_cuts : (state : State) (e : Entry) (place : ℕ) → changes_state (world_in state) e ≡ true → cut_due (left_posts (seat_of e) (frees e) state.posts) + length (cut_by (world_in state) place e) ≤ cut_due state.posts
moved_cuts state (Join seat key reader writer) place moves = cc
moved_cuts state (Line seat bytes) place moves = cc
moved_cuts state (Taken seat count) place moves = cc
moved_cuts state (Leave seat drop_it) place moves = cut_there state.posts seat drop_it 0 (slice_get state.posts seat) refl (omega arith)
moved_cuts state (Cut seat) place moves =
    let count : length (cut_of place seat (standing (seat_at (world_in state) seat))) ≡ cut_due_of (state_in (slice_get state.posts seat)) =
    cut_length place seat (standing (seat_at (world_in state) seat)) ∙ ap (λ o. cut_due_of (standing o)) (slice_get-map (λ (x : Post). x.seat) state.posts seat) ∙ ap cut_due_of (stands_in (slice_get state.posts seat)) in
    cut_there state.posts seat true (length (cut_of place seat (standing (seat_at (world_in state) seat)))) (slice_get state.posts seat) refl (omega (arith, count))
