use Rattle.std.proofs.Common.{◌≡◌, true, false, Some, ◌∙◌, ap, refl, sym}
use Rattle.std.specs.Prelude.{slice_get}
use Rattle.std.proofs.lemmas.Result.{IfOk-weaker}
use Rattle.seats.specs.SeatState.{is_joined}
use Rattle.view_keep.specs.Kept.{put_at}
use Rattle.player_view.specs.View.{view_of}
use Rattle.campaign_law.specs.Seat.{Seat, was_joined}
use Rattle.campaign_law.specs.Outcome.{seat_of}
use Rattle.campaign_law.specs.World.{seat_at}
use Rattle.campaign_law.proofs.Worlds.{seat_numbered}
use Rattle.campaign_core.specs.Places.{Place, world_at}
use Rattle.campaign_core.proofs.Following.{kept_is}
use Rattle.campaign_core.proofs.ViewsDecide.{seat_found, shown_decides}
use Rattle.campaign_core.proofs.deciding.still_outcome.Goals as goal

pub shown_outcome-requires : goal.shown_outcome-requires
shown_outcome-requires c =
    let w = world_at c.args.state.now in
    let seat = seat_of c.args.entry.now in
    let inside : Seat = record { book = c.post-2.inside.book; queued = c.post-2.inside.queued; taken = c.post-2.inside.taken } in
    let found = sym (seat_found c.args.state.now seat (Some c.in-Some.post.now) (c.in-Some.ensures ∙ ap (slice_get c.args.state.now.posts) (c.number.ensures.value ∙ c.seat-seat.ensures))) in
    let there : seat_at w seat ≡ Some inside = found ∙ ap (λ (p : Place). Some p.seat) (sym c.post-2.view_is) in
    record { seat = seat_numbered w seat inside c.requires.fits there }

pub returns-then-is_joined : goal.returns-then-is_joined
returns-then-is_joined c =
    let w = world_at c.args.state.now in
    let seat = seat_of c.args.entry.now in
    let inside : Seat = record { book = c.post-2.inside.book; queued = c.post-2.inside.queued; taken = c.post-2.inside.taken } in
    let found = sym (seat_found c.args.state.now seat (Some c.in-Some.post.now) (c.in-Some.ensures ∙ ap (slice_get c.args.state.now.posts) (c.number.ensures.value ∙ c.seat-seat.ensures))) in
    let there : seat_at w seat ≡ Some inside = found ∙ ap (λ (p : Place). Some p.seat) (sym c.post-2.view_is) in
    let joined : is_joined inside.book.state ≡ true = ap is_joined (sym c.state.ensures.value) ∙ sym c.is_joined.ensures ∙ c.if-is_joined.true in
    let put = ap (λ q. put_at q c.args.keep.now.views) (sym c.seat-seat.ensures) ∙ c.view.ensures in
    let sees = kept_is seat c.args.keep.now.views (view_of w.scene seat) c.view.result.now (c.requires.views.each seat (ap was_joined there ∙ joined)) put in
    IfOk-weaker c.shown_outcome.result _ _ (λ o is. is ∙ shown_decides w c.args.entry.now c.view.result.now inside inside.book true (sym there) refl joined (λ _. sees)) c.shown_outcome.ensures

pub shown_outcome-requires-2 : goal.shown_outcome-requires-2
shown_outcome-requires-2 c =
    let w = world_at c.args.state.now in
    let seat = seat_of c.args.entry.now in
    let inside : Seat = record { book = c.post-2.inside.book; queued = c.post-2.inside.queued; taken = c.post-2.inside.taken } in
    let found = sym (seat_found c.args.state.now seat (Some c.in-Some.post.now) (c.in-Some.ensures ∙ ap (slice_get c.args.state.now.posts) (c.number.ensures.value ∙ c.seat-seat.ensures))) in
    let there : seat_at w seat ≡ Some inside = found ∙ ap (λ (p : Place). Some p.seat) (sym c.post-2.view_is) in
    record { seat = seat_numbered w seat inside c.requires.fits there }

pub returns : goal.returns
returns c =
    let w = world_at c.args.state.now in
    let seat = seat_of c.args.entry.now in
    let inside : Seat = record { book = c.post-2.inside.book; queued = c.post-2.inside.queued; taken = c.post-2.inside.taken } in
    let found = sym (seat_found c.args.state.now seat (Some c.in-Some.post.now) (c.in-Some.ensures ∙ ap (slice_get c.args.state.now.posts) (c.number.ensures.value ∙ c.seat-seat.ensures))) in
    let there : seat_at w seat ≡ Some inside = found ∙ ap (λ (p : Place). Some p.seat) (sym c.post-2.view_is) in
    let free : is_joined inside.book.state ≡ false = ap is_joined (sym c.state.ensures.value) ∙ sym c.is_joined.ensures ∙ c.if-is_joined.false in
    IfOk-weaker c.shown_outcome-2.result _ _ (λ o is. is ∙ shown_decides w c.args.entry.now c.no_view-nothing.result inside inside.book false (sym there) refl free (λ h. absurd cc)) c.shown_outcome-2.ensures
