use Rattle.world.proofs.Makers.{IsWorld-without}
use Rattle.world.proofs.world.World.remove.Goals as goal

pub invariant_of-self : goal.invariant_of-self
invariant_of-self c = IsWorld-without c.self.inside.scene c.remove.new.self c.self.inside.seats.items c.args.id c.remove.ensures.rest c.self.invariant
