use Rattle.std.proofs.Common.{◌∙◌, ap, sym, subst}
use Rattle.world.specs.Scene.{Scene}
use Rattle.player_view.specs.Seen.{AreSeen}
use Rattle.campaign_core.specs.Glances.{ViewsFit}
use Rattle.campaign_core.proofs.next.glances_at.Goals as goal

pub returns-clause-glances : goal.returns-clause-glances
returns-clause-glances c = record {
  after = c.serve.ensures;
  players = c.requires.players ∙ ap (λ (s : Scene). s.fog.players) (sym c.scene-scene.ensures);
  seen = subst (AreSeen c.args.changed.now.scene) (sym c.as_slice.ensures.value) c.requires.seen;
  fit = subst (λ (s : Scene). ViewsFit s c.args.changed.now.scene) (sym c.scene-scene.ensures) c.requires.fit;
}
