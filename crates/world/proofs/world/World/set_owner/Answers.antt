use Rattle.std.proofs.Common.{refl}
use Rattle.tokens.specs.Tokens.{owned_by}
use Rattle.world.proofs.Makers.{IsWorld-changed_token}
use Rattle.world.proofs.world.World.set_owner.Goals as goal

pub invariant_of-self : goal.invariant_of-self
invariant_of-self c = IsWorld-changed_token (owned_by c.args.seat c.args.on) (λ t. refl) c.self.inside.scene c.set_owner.new.self c.self.inside.seats.items c.args.id c.set_owner.ensures c.self.invariant
