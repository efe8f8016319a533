use Rattle.player_view.proofs.FightLemmas.{shown_fights_alike}
use Rattle.player_view.proofs.laws.fights_are_shown.Goals as goal

pub returns : goal.returns
returns c = shown_fights_alike
