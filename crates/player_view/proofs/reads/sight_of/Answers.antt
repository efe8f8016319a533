use Rattle.std.proofs.Common.{subst}
use Rattle.sight_types.specs.Sights.{AreSightTypes}
use Rattle.player_view.proofs.SceneLemmas.{sight_in_limits}
use Rattle.player_view.proofs.reads.sight_of.Goals as goal

pub returns-clause-limits : goal.returns-clause-limits
returns-clause-limits c =
    sight_in_limits c.args.scene.now.sights c.args.token.now.sight c.passed_sight_of.result
    (subst AreSightTypes c.sights.ensures.value c.len-count.ensures.valid) c.passed_sight_of.ensures
