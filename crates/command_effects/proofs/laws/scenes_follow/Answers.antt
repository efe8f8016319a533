use Rattle.command_effects.proofs.Following.{scenes_follow}
use Rattle.command_effects.proofs.laws.scenes_follow.Goals as goal

pub returns : goal.returns
returns c = scenes_follow
