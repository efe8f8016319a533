-- By what its seat is shown an entry is decided as by the world.
use Rattle.std.proofs.Common.{◌≡◌, ℕ, Bool, true, false, cond, Some, None, refl, sym, ◌∙◌, ap, length}
use Rattle.std.specs.Prelude.{Option, IfSome, option_map, slice_get}
use Rattle.std.proofs.lemmas.Bool.{eqb-true}
use Rattle.std.proofs.lemmas.Option.{slice_get-map}
use Rattle.seats.specs.Book.{Book}
use Rattle.seats.specs.SeatState.{is_joined}
use Rattle.views.specs.declared.view.View.{View}
use Rattle.world.specs.Scene.{Scene}
use Rattle.player_view.specs.View.{is_gm, view_of}
use Rattle.player_view.specs.Asked.{asked_of, asked_of_view}
use Rattle.view_rules.proofs.ShownAlike.{answers_alike}
use Rattle.view_rules.specs.Asking.{asked_by}
use Rattle.campaign_law.specs.declared.entry.Entry.{Entry}
use Rattle.campaign_law.specs.Seat.{Seat, was_joined}
use Rattle.campaign_law.specs.Outcome.{of_steps, outcome_at, present_outcome, seat_of}
use Rattle.campaign_law.specs.World.{World, asked_of as asked_of_world, seat_at}
use Rattle.campaign_law.proofs.Outcomes.{outcome_at-unasked}
use Rattle.campaign_core.specs.Places.{Place, Standing, world_at}
use Rattle.campaign_core.specs.Shown.{answers_by}

-- the seat of a post that was found
pub seat_found : (s : Standing) (seat : ℕ) (o : Option Place) → o ≡ slice_get s.posts seat → option_map (λ (p : Place). p.seat) o ≡ seat_at (world_at s) seat
seat_found s seat o is = ap (option_map (λ (p : Place). p.seat)) is ∙ sym (slice_get-map (λ (p : Place). p.seat) s.posts seat)

-- the game master alone is answered the whole scene
pub gm_alone : (s : Scene) (seat : ℕ) → IfSome (cond (is_gm seat) (Some s) None) (λ s. seat ≡ 0)
gm_alone s seat = by (is_gm seat) refl
  where
    by : (gm : Bool) → is_gm seat ≡ gm → IfSome (cond gm (Some s) None) (λ s. seat ≡ 0)
    by true is = eqb-true seat 0 is
    by false is = tt

-- who is asked tells how many seats there are
same_seats : (seats : ℕ) (v : View) (whole : Option Scene) (s : Scene) (q : ℕ) → (asked_by seats v whole).seats ≡ (asked_of seats s q).seats
unfolding asked_of asked_of_view
same_seats seats v whole s q = refl

-- of a seat that is Joined the view is what it sees; one that isn't is asked for the number of seats alone
decided_alike : (w : World) (e : Entry) (v : View) (j : Bool) → was_joined (seat_at w (seat_of e)) ≡ j → (j ≡ true → v ≡ view_of w.scene (seat_of e))
    → outcome_at (answers_by w (seat_of e) v) (of_steps 0) (seat_at w (seat_of e)) e ≡ outcome_at (asked_of_world w (seat_of e)) (of_steps 0) (seat_at w (seat_of e)) e
decided_alike w e v true is sees =
    ap (λ (x : View). outcome_at (answers_by w (seat_of e) x) (of_steps 0) (seat_at w (seat_of e)) e) (sees refl)
    ∙ ap (λ a. outcome_at a (of_steps 0) (seat_at w (seat_of e)) e) (answers_alike (length w.seats) w.scene (seat_of e))
decided_alike w e v false is sees =
    outcome_at-unasked (answers_by w (seat_of e) v) (asked_of_world w (seat_of e)) (of_steps 0) (seat_at w (seat_of e)) e
    (same_seats (length w.seats) v (cond (is_gm (seat_of e)) (Some w.scene) None) w.scene (seat_of e)) is

-- so is that of the seat which stands so
pub shown_decides : (w : World) (e : Entry) (v : View) (s : Seat) (b : Book) (j : Bool) → Some s ≡ seat_at w (seat_of e) → b ≡ s.book → is_joined b.state ≡ j → (j ≡ true → v ≡ view_of w.scene (seat_of e))
    → present_outcome (answers_by w (seat_of e) v) (of_steps 0) b e ≡ outcome_at (asked_of_world w (seat_of e)) (of_steps 0) (seat_at w (seat_of e)) e
shown_decides w e v s b j at is joined sees =
    ap (λ (c : Book). present_outcome (answers_by w (seat_of e) v) (of_steps 0) c e) is
    ∙ ap (λ (before : Option Seat). outcome_at (answers_by w (seat_of e) v) (of_steps 0) before e) at
    ∙ decided_alike w e v j (ap was_joined (sym at) ∙ sym (ap (λ (c : Book). is_joined c.state) is) ∙ joined) sees
