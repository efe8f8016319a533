use Rattle.campaign_scene.proofs.Maps.{IsLaidTo}
use Rattle.campaign_scene.proofs.map.set_letters.Given as goal

abbrev pub invariant-loop-x : goal.invariant-loop-x
invariant-loop-x l = IsLaidTo l.name l.y l.letters l.fn.scene l.x l.scene
