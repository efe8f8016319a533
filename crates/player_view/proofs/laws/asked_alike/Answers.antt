use Rattle.player_view.proofs.Alike.{asked_alike}
use Rattle.player_view.proofs.laws.asked_alike.Goals as goal

pub returns : goal.returns
returns c = asked_alike
