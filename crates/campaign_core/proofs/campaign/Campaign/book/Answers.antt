use Rattle.std.proofs.Common.{◌∙◌, Some, None, sym, ap}
use Rattle.std.specs.Prelude.{option_map, slice_get}
use Rattle.campaign_law.specs.Seat.{Seat}
use Rattle.campaign_law.specs.World.{replay, seat_at}
use Rattle.campaign_law.specs.Law.{Course}
use Rattle.campaign_law.specs.State.{world_in}
use Rattle.campaign_core.specs.Places.{Place, law}
use Rattle.campaign_core.proofs.Running.{seat_now}
use Rattle.campaign_core.proofs.campaign.Campaign.book.Goals as goal

pub returns-in-Some : goal.returns-in-Some
returns-in-Some g c =
    let at = sym (ap (option_map (λ p. p.now)) c.in-Some.is) ∙ c.post.ensures ∙ ap (slice_get c.self.inside.state.posts) c.number.ensures.value in
    ap (λ (p : Place). Some p.seat.book) c.post-in-Some.view_is
    ∙ ap (option_map (λ (s : Seat). s.book)) (seat_now (world_in (law c.self.inside.origin)) c.self.inside.history.items _ c.self.inside.state c.self.inside.keep c.self.inside.staged c.self.invariant c.args.seat (Some c.in-Some.post.now) at)
    ∙ ap (λ (x : Course). option_map (λ (s : Seat). s.book) (seat_at (replay x.origin x.history) c.args.seat)) c.self.view_is

pub returns-in-None : goal.returns-in-None
returns-in-None g c =
    let at = sym (ap (option_map (λ p. p.now)) c.in-None.is) ∙ c.post.ensures ∙ ap (slice_get c.self.inside.state.posts) c.number.ensures.value in
    ap (option_map (λ (s : Seat). s.book)) (seat_now (world_in (law c.self.inside.origin)) c.self.inside.history.items _ c.self.inside.state c.self.inside.keep c.self.inside.staged c.self.invariant c.args.seat None at)
    ∙ ap (λ (x : Course). option_map (λ (s : Seat). s.book) (seat_at (replay x.origin x.history) c.args.seat)) c.self.view_is
