use Rattle.std.proofs.Common.{◌∙◌, ap, sym}
use Rattle.seats.specs.SeatState.{is_joined}
use Rattle.campaign_law.specs.World.{seat_at, replay}
use Rattle.campaign_law.specs.Law.{Course}
use Rattle.campaign_law.specs.State.{world_in}
use Rattle.campaign_core.specs.Places.{Place, law}
use Rattle.campaign_core.specs.Shown.{kept_view}
use Rattle.campaign_core.proofs.Following.{is_there}
use Rattle.campaign_core.proofs.Running.{put_now, view_joined}
use Rattle.campaign_core.proofs.campaign.Campaign.view.Goals as goal

pub view-requires : goal.view-requires
view-requires g c =
    let at = c.post.ensures.seat ∙ ap (λ (x : Course). seat_at (replay x.origin x.history) c.args.seat) (sym c.self.view_is) in
    let joined = sym (ap (λ (p : Place). is_joined p.seat.book.state) c.behind-self.view_is) ∙ sym (ap is_joined c.state.ensures.value) ∙ sym c.is_joined.ensures ∙ c.if-not-is_joined.false in
    is_there _ _ (put_now (world_in (law c.self.inside.origin)) c.self.inside.history.items _ c.self.inside.state c.self.inside.keep c.self.inside.staged c.self.invariant c.args.seat c.post.result.now.seat at joined)

pub returns : goal.returns
returns g c =
    let at = c.post.ensures.seat ∙ ap (λ (x : Course). seat_at (replay x.origin x.history) c.args.seat) (sym c.self.view_is) in
    let joined = sym (ap (λ (p : Place). is_joined p.seat.book.state) c.behind-self.view_is) ∙ sym (ap is_joined c.state.ensures.value) ∙ sym c.is_joined.ensures ∙ c.if-not-is_joined.false in
    sym c.view.ensures
    ∙ put_now (world_in (law c.self.inside.origin)) c.self.inside.history.items _ c.self.inside.state c.self.inside.keep c.self.inside.staged c.self.invariant c.args.seat c.post.result.now.seat at joined
    ∙ view_joined (replay (world_in (law c.self.inside.origin)) c.self.inside.history.items) c.args.seat c.post.result.now.seat at joined
    ∙ ap (λ (x : Course). kept_view (replay x.origin x.history) c.args.seat) c.self.view_is
