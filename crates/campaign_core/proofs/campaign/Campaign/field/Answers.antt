use Rattle.std.proofs.Common.{◌∙◌, ap}
use Rattle.vision.specs.Fields.{field_at}
use Rattle.command_looks.specs.Fields.{field_for}
use Rattle.campaign_law.specs.World.{World, replay}
use Rattle.campaign_law.specs.Law.{Course}
use Rattle.campaign_law.specs.State.{world_in}
use Rattle.campaign_core.specs.Places.{law}
use Rattle.campaign_core.proofs.Running.{world_now}
use Rattle.campaign_core.proofs.campaign.Campaign.field.Goals as goal

pub returns : goal.returns
returns g c =
    c.get.ensures ∙ ap (field_at c.args.id) c.fields.ensures ∙ c.self.invariant.fields.each c.args.id
    ∙ ap (λ (w : World). field_for w.scene c.args.id) (world_now (world_in (law c.self.inside.origin)) c.self.inside.history.items _ c.self.inside.state c.self.inside.keep c.self.inside.staged c.self.invariant)
    ∙ ap (λ (x : Course). field_for (replay x.origin x.history).scene c.args.id) c.self.view_is
