-- A Taken changes the post of its seat alone.
use Rattle.std.proofs.Common.{◌≡◌, ℕ, ◌-◌, Bool, true, false, [], List, drop, length, Some, None, refl, ◌∙◌, ap}
use Rattle.std.specs.Prelude.{Option}
use Rattle.views.specs.declared.view.View.{View}
use Rattle.view_keep.specs.declared.keep.KeptView.{KeptView}
use Rattle.command_effects.specs.Settle.{IsSettled}
use Rattle.player_view.specs.Asked.{Asked}
use Rattle.campaign_law.specs.declared.entry.Entry.{Entry}
use Rattle.campaign_law.specs.declared.entry.Entry.TheVariants.{Join, Line, Leave, Taken, Cut}
use Rattle.campaign_law.specs.Seat.{Seat, settled, taken_to}
use Rattle.campaign_law.specs.Outcome.{Outcome, Report, nothing, of_steps, outcome_at, seat_of}
use Rattle.campaign_law.specs.World.{World, seat_at, asked_of, report_of, steps_of, outcome_of, is_present, queued_lines, step}
use Rattle.campaign_law.specs.Session.{changes_state}
use Rattle.campaign_law.specs.State.{Post, State, world_in, post_by, mail_after, state_after}
use Rattle.campaign_law.specs.Law.{answer_of}
use Rattle.campaign_law.proofs.Lists.{append_nil}
use Rattle.campaign_law.proofs.Seats.{settled-none}
use Rattle.campaign_law.proofs.Settled.{scene_stays}
use Rattle.campaign_core.specs.Leaving.{mail_of}
use Rattle.campaign_core.specs.Shown.{AreShown}
use Rattle.campaign_core.specs.Sound.{AreSound}
use Rattle.campaign_core.specs.Taking.{count_in, is_taken, taken_seat, taken_post, taken_posts}
use Rattle.campaign_core.proofs.Leaving.{own_state, quiet}
use Rattle.campaign_core.proofs.Nexts.{no_steps}
use Rattle.campaign_core.proofs.Shows.{stays_shown}

-- ---- the post of its seat

abbrev taking : ℕ → Outcome
taking count = record nothing { taken = count }

no_lines : (seat : ℕ) (acts : Bool) (count : ℕ) (s : Seat) (v : View) → queued_lines seat acts (Some s) (taking count) v v ≡ []
no_lines seat true count s v = quiet seat v (is_present true (Some s) (taking count)) false refl
no_lines seat false count s v = quiet seat v (is_present false (Some s) (taking count)) false refl

own_takes : (seat count : ℕ) (v : View) (post : Post) → post_by seat true (taking count) v v post ≡ taken_post count post
own_takes seat count v post =
    (λ i. let next = settled (length (no_lines seat true count post.seat v i)) taken in record { seat = next; mail = mail_after post.seat next (no_lines seat true count post.seat v i) post.mail })
    ∙ (λ i. let next = settled-none taken i in record { seat = next; mail = mail_after post.seat next [] post.mail })
    ∙ ap (λ mail. record { seat = taken_seat count post.seat; mail = mail_of (taken_seat count post.seat) mail }) (append_nil (drop ((taken_seat count post.seat).taken - post.seat.taken) post.mail))
  where
    taken : Seat
    taken = record post.seat { taken = taken_to count post.seat.queued post.seat.taken }

-- ---- what it does

no_done : (asked : Asked) (report : Report) (before : Option Seat) (seat count : ℕ) → (outcome_at asked report before (Taken seat count)).done ≡ None
no_done asked report None seat count = refl
no_done asked report (Some s) seat count = refl

no_joins : (asked : Asked) (report : Report) (before : Option Seat) (seat count : ℕ) → (outcome_at asked report before (Taken seat count)).joins ≡ false
no_joins asked report None seat count = refl
no_joins asked report (Some s) seat count = refl

others_none : (asked : Asked) (report : Report) (before : Option Seat) (seat count p : ℕ) (s : Seat) (v : View) → queued_lines p false (Some s) (outcome_at asked report before (Taken seat count)) v v ≡ []
others_none asked report None seat count p s v = quiet p v (is_present false (Some s) nothing) false refl
others_none asked report (Some t) seat count p s v = no_lines p false count s v

state_then : (state : State) (seat count : ℕ) → IsSettled state.scene → AreSound state.posts → record { posts = taken_posts seat count state.posts; scene = state.scene } ≡ state_after state (Taken seat count)
state_then state seat count settled sound =
    let w : World = world_in state in
    let e : Entry = Taken seat count in
    own_state state e (taken_post count) settled sound (no_done (asked_of w seat) (report_of w e) (seat_at w seat) seat count)
    (λ p s v. others_none (asked_of w seat) (report_of w e) (seat_at w seat) seat count p s v)
    (λ p post v own. ap (λ b. post_by p true (outcome_at (asked_of w seat) (report_of w e) b e) v v post) own ∙ own_takes p count v post)

answer_at : (asked : Asked) (n : ℕ) (report : Report) (before : Option Seat) (seat count : ℕ) → record { refusal = None; taken = n; line = None } ≡ answer_of n (outcome_at asked report before (Taken seat count))
answer_at asked n report None seat count = refl
answer_at asked n report (Some s) seat count = refl

-- it has no answer
pub taken_answer : (w : World) (e : Entry) → is_taken e ≡ true → record { refusal = None; taken = 0; line = None } ≡ answer_of (steps_of w e) (outcome_of w e)
taken_answer w (Join seat key reader writer) taken = cc
taken_answer w (Line seat bytes) taken = cc
taken_answer w (Leave seat drop_it) taken = cc
taken_answer w (Cut seat) taken = cc
taken_answer w (Taken seat count) taken =
    let e : Entry = Taken seat count in
    ap (λ n. record { refusal = None; taken = n; line = None }) (no_steps w e (outcome_at (asked_of w seat) (of_steps 0) (seat_at w seat) e) refl (no_done (asked_of w seat) (of_steps 0) (seat_at w seat) seat count))
    ∙ answer_at (asked_of w seat) (steps_of w e) (report_of w e) (seat_at w seat) seat count

pub taken_state : (state : State) (e : Entry) → is_taken e ≡ true → IsSettled state.scene → AreSound state.posts → record { posts = taken_posts (seat_of e) (count_in e) state.posts; scene = state.scene } ≡ state_after state e
taken_state state (Join seat key reader writer) taken settled sound = cc
taken_state state (Line seat bytes) taken settled sound = cc
taken_state state (Leave seat drop_it) taken settled sound = cc
taken_state state (Cut seat) taken settled sound = cc
taken_state state (Taken seat count) taken settled sound = state_then state seat count settled sound

-- it leaves the kept views as they are
pub taken_shown : (w : World) (e : Entry) (views : List KeptView) → is_taken e ≡ true → IsSettled w.scene → AreShown w views → AreShown (step w e) views
taken_shown w (Join seat key reader writer) views taken settled shown = cc
taken_shown w (Line seat bytes) views taken settled shown = cc
taken_shown w (Leave seat drop_it) views taken settled shown = cc
taken_shown w (Cut seat) views taken settled shown = cc
taken_shown w (Taken seat count) views taken settled shown =
    let e : Entry = Taken seat count in
    stays_shown w e views (no_joins (asked_of w seat) (report_of w e) (seat_at w seat) seat count) (scene_stays w e settled (no_done (asked_of w seat) (report_of w e) (seat_at w seat) seat count)) shown

-- it changes no seat's state by itself
pub taken_still : (w : World) (e : Entry) → is_taken e ≡ true → changes_state w e ≡ false
taken_still w (Join seat key reader writer) taken = refl
taken_still w (Line seat bytes) taken = refl
taken_still w (Leave seat drop_it) taken = cc
taken_still w (Cut seat) taken = cc
taken_still w (Taken seat count) taken = refl
