use Rattle.std.proofs.Common.{◌∙◌, sym, ap, subst}
use Rattle.world.specs.Scene.{Scene}
use Rattle.command_looks.specs.Fields.{AreKept}
use Rattle.campaign_law.specs.World.{World, replay}
use Rattle.campaign_law.specs.Law.{Course}
use Rattle.campaign_law.specs.State.{world_in}
use Rattle.campaign_core.specs.Places.{law}
use Rattle.campaign_core.specs.Totals.{seen_total}
use Rattle.campaign_core.proofs.Nexts.{if_ok}
use Rattle.campaign_core.proofs.Running.{world_now}
use Rattle.campaign_core.proofs.campaign.Campaign.seen_total.Goals as goal

pub serve-requires : goal.serve-requires
serve-requires g c =
    subst (λ (scene : Scene). AreKept scene c.fields-fields.result.now) (sym c.scene-scene.ensures)
    (subst (λ fields. AreKept c.self.inside.state.scene fields) (sym c.fields-fields.ensures) c.self.invariant.fields)

pub returns : goal.returns
returns g c =
    if_ok c.seen_total.result _ _
    (λ n is.
    is ∙ ap (λ (s : Scene). seen_total s) c.scene-scene.ensures
    ∙ ap (λ (w : World). seen_total w.scene) (world_now (world_in (law c.self.inside.origin)) c.self.inside.history.items _ c.self.inside.state c.self.inside.keep c.self.inside.staged c.self.invariant)
    ∙ ap (λ (x : Course). seen_total (replay x.origin x.history).scene) c.self.view_is)
    c.seen_total.ensures
