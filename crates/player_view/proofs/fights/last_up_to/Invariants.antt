use Rattle.std.proofs.Common.{◌≡◌, None}
use Rattle.player_view.proofs.FightLemmas.{last_from}
use Rattle.player_view.proofs.fights.last_up_to.Given as goal

abbrev pub invariant-loop-entry : goal.invariant-loop-entry
invariant-loop-entry l = last_from l.gm l.tokens l.id l.last l.entry-iterator ≡ last_from l.gm l.tokens l.id None l.fight.list
