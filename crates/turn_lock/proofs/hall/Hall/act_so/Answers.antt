use Rattle.turn_lock.proofs.Places.{front-turn}
use Rattle.turn_lock.proofs.hall.Hall.act_so.Goals as goal

pub returns-clause-front : goal.returns-clause-front
returns-clause-front g c = rw (← c.pass.view_is) (front-turn _ _ _ _ c.turn.ensures.turn)
