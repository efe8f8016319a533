use Rattle.std.proofs.Common.{◌∙◌, ap, sym}
use Rattle.campaign_law.specs.State.{world_in}
use Rattle.campaign_law.specs.Law.{Course}
use Rattle.campaign_core.specs.Over.{over_of}
use Rattle.campaign_core.specs.Places.{law}
use Rattle.campaign_core.proofs.Overs.{if_over, over_by_posts, over_joined, over_there}
use Rattle.campaign_core.proofs.campaign.Campaign.over.Goals as goal

pub returns-clause-value : goal.returns-clause-value
returns-clause-value g c =
    c.over.ensures ∙ over_by_posts (world_in (law c.self.inside.origin)) c.self.inside.history.items (law c.self.inside.state) c.self.invariant.now
    ∙ ap (λ (x : Course). over_of x.origin x.history) c.self.view_is

pub returns-clause-joined : goal.returns-clause-joined
returns-clause-joined g c = if_over c.over.result _ (λ q is.
    over_joined c.args.self.now.origin c.args.self.now.history q
    (sym (c.over.ensures ∙ over_by_posts (world_in (law c.self.inside.origin)) c.self.inside.history.items (law c.self.inside.state) c.self.invariant.now
    ∙ ap (λ (x : Course). over_of x.origin x.history) c.self.view_is) ∙ is))

pub returns-clause-seat : goal.returns-clause-seat
returns-clause-seat g c = if_over c.over.result _ (λ q is.
    over_there c.args.self.now.origin c.args.self.now.history q
    (sym (c.over.ensures ∙ over_by_posts (world_in (law c.self.inside.origin)) c.self.inside.history.items (law c.self.inside.state) c.self.invariant.now
    ∙ ap (λ (x : Course). over_of x.origin x.history) c.self.view_is) ∙ is))
