use Rattle.player_view.proofs.Tells.{tests_tell}
use Rattle.player_view.proofs.laws.tests_tell.Goals as goal

pub returns : goal.returns
returns c = tests_tell
