-- What a Cut changes.
use Rattle.std.proofs.Common.{◌≡◌, ℕ, Bool, true, false, cond, length, Some, None, refl, ◌∙◌, ap}
use Rattle.std.specs.Prelude.{Option, option_map, IfSome}
use Rattle.seats.specs.Book.{Book, freed}
use Rattle.seats.specs.SeatState.{is_joined}
use Rattle.world.specs.Scene.{Scene}
use Rattle.player_view.specs.View.{view_of}
use Rattle.player_view.specs.Asked.{Asked}
use Rattle.campaign_law.specs.declared.entry.Entry.TheVariants.{Cut}
use Rattle.campaign_law.specs.Seat.{Seat, freed_seat, settled}
use Rattle.campaign_law.specs.Outcome.{Report, Outcome, nothing, outcome_at}
use Rattle.campaign_law.specs.World.{World, seat_at, asked_of, report_of, scene_after, changed, seat_after, replay}
use Rattle.campaign_law.specs.SessionLaws.{cut_seat, CutFrees}
use Rattle.campaign_law.proofs.Counts.{IsQuiet}
use Rattle.campaign_law.proofs.Seats.{IsSound}
use Rattle.campaign_law.proofs.Sessions.{seat_at-after}
use Rattle.campaign_law.proofs.Settled.{scene_stays, replay_settled}
use Rattle.campaign_law.proofs.Refused.{after_quiet, queued_quiet, taken_stays, eqb-same, after_at, other_at, sound_at}

cut_quiet : (b : Book) (j : Bool) → IsQuiet (cond j (record nothing { book = Some (freed b) }) nothing)
cut_quiet b true = record { reply = refl; messages = refl; full = refl; done = refl }
cut_quiet b false = record { reply = refl; messages = refl; full = refl; done = refl }

says_nothing : (asked : Asked) (report : Report) (seat : ℕ) (before : Option Seat) → IsQuiet (outcome_at asked report before (Cut seat))
says_nothing asked report seat None = record { reply = refl; messages = refl; full = refl; done = refl }
says_nothing asked report seat (Some s) = cut_quiet s.book (is_joined s.book.state)

-- the seat itself
cut_leaves : (seat : ℕ) (s : Seat) (scene : Scene) (j : Bool) → IsSound s → after_quiet seat true (cond j (record nothing { book = Some (freed s.book) }) nothing) (view_of scene seat) s ≡ cond j (freed_seat s) s
cut_leaves seat s scene true sound =
    let o : Outcome = record nothing { book = Some (freed s.book) } in
    ap (λ ls. settled (length ls) (changed o true s)) (queued_quiet seat true s o scene refl refl)
cut_leaves seat s scene false sound =
    ap (λ ls. settled (length ls) (changed nothing true s)) (queued_quiet seat true s nothing scene refl refl)
    ∙ ap (λ t. settled 0 (record s { taken = t })) (taken_stays s)
    ∙ sound.settled

own_at : (w : World) (seat : ℕ) (before : Option Seat) → scene_after w (Cut seat) ≡ w.scene → seat_at w seat ≡ before → IfSome before IsSound → option_map (seat_after w (Cut seat) seat) before ≡ option_map cut_seat before
own_at w seat None stays at sound = refl
own_at w seat (Some s) stays at sound =
    ap Some (after_at w (Cut seat) seat true s stays (eqb-same seat)
    ∙ ap (λ b. after_quiet seat true (outcome_at (asked_of w seat) (report_of w (Cut seat)) b (Cut seat)) (view_of w.scene seat) s) at
    ∙ cut_leaves seat s w.scene (is_joined s.book.state) sound)

pub cut_frees : CutFrees
cut_frees w h seat fresh =
    let now : World = replay w h in
    let quiet = says_nothing (asked_of now seat) (report_of now (Cut seat)) seat (seat_at now seat) in
    let stays : scene_after now (Cut seat) ≡ now.scene = scene_stays now (Cut seat) (replay_settled w h fresh.scene) quiet.done in
    record {
      scene = stays;
      others = λ p other. seat_at-after now (Cut seat) p ∙ other_at now (Cut seat) p (seat_at now p) stays (sound_at w h p fresh) other (quiet.messages, quiet.full);
      own = seat_at-after now (Cut seat) seat ∙ own_at now seat (seat_at now seat) stays refl (sound_at w h seat fresh);
    }
