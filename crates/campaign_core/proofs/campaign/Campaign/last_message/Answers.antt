use Rattle.std.proofs.Common.{◌≡◌, ◌∙◌, List, Some, None, sym, ap}
use Rattle.std.specs.Prelude.{find, option_map, slice_get}
use Rattle.seats.specs.SeatState.{is_joined}
use Rattle.campaign_law.specs.Messages.{Message}
use Rattle.campaign_law.specs.World.{some_to_list}
use Rattle.campaign_law.specs.Law.{Course}
use Rattle.campaign_law.specs.State.{world_in}
use Rattle.campaign_core.specs.Places.{Place, law}
use Rattle.campaign_core.specs.Said.{is_heard, last_said}
use Rattle.campaign_core.proofs.Running.{seat_now}
use Rattle.campaign_core.proofs.Saying.{found, heard_last, nobody_told}
use Rattle.campaign_core.proofs.campaign.Campaign.last_message.Goals as goal

-- nothing is said to a seat that isn't in the campaign
pub returns-in_default : goal.returns-in_default
returns-in_default g c =
    let at = sym (ap (option_map (λ p. p.now)) c.in_default.is) ∙ c.post.ensures ∙ ap (slice_get c.self.inside.state.posts) c.number.ensures.value in
    nobody_told (world_in (law c.self.inside.origin)) c.self.inside.history.items c.args.seat
    (sym (seat_now (world_in (law c.self.inside.origin)) c.self.inside.history.items _ c.self.inside.state c.self.inside.keep c.self.inside.staged c.self.invariant c.args.seat None at))
    ∙ ap (λ (x : Course). last_said x.origin x.history c.args.seat) c.self.view_is

pub returns : goal.returns
returns g c =
    let at = sym (ap (option_map (λ p. p.now)) c.in-Some.is) ∙ c.post.ensures ∙ ap (slice_get c.self.inside.state.posts) c.number.ensures.value in
    let seat = seat_now (world_in (law c.self.inside.origin)) c.self.inside.history.items _ c.self.inside.state c.self.inside.keep c.self.inside.staged c.self.invariant c.args.seat (Some c.in-Some.post.now) at in
    let joined : is_joined c.in-Some.post.now.seat.book.state ≡ c.is_joined-joined.result =
    sym (ap (λ (p : Place). is_joined p.seat.book.state) c.post-2.view_is) ∙ sym (ap is_joined c.state.ensures.value) ∙ sym c.is_joined-joined.ensures in
    ap some_to_list c.heard.ensures
    ∙ ap (λ (ms : List Message). found (find (is_heard c.args.seat c.is_joined-joined.result) ms)) (c.deref.ensures.value ∙ c.self.invariant.said)
    ∙ heard_last (world_in (law c.self.inside.origin)) c.self.inside.history.items c.args.seat c.in-Some.post.now.seat c.is_joined-joined.result (sym seat) joined
    ∙ ap (λ (x : Course). last_said x.origin x.history c.args.seat) c.self.view_is
