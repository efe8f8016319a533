use Rattle.std.proofs.Common.{refl, sym, subst}
use Rattle.world.specs.Scene.{Scene}
use Rattle.player_view.proofs.FoundLemmas.{none_seen}
use Rattle.campaign_core.specs.Glances.{ViewsFit}
use Rattle.campaign_core.proofs.next.glances_still.Goals as goal

pub returns-clause-glances : goal.returns-clause-glances
returns-clause-glances c = record {
  after = c.serve.ensures;
  players = refl;
  seen = none_seen c.scene-scene.result.now;
  fit = subst (λ (s : Scene). ViewsFit s s) (sym c.scene-scene.ensures) c.requires.fit;
}
