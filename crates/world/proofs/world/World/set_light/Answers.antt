use Rattle.std.proofs.Common.{refl}
use Rattle.tokens.specs.Tokens.{with_light}
use Rattle.world.proofs.Makers.{IsWorld-changed_token}
use Rattle.world.proofs.world.World.set_light.Goals as goal

pub invariant_of-self : goal.invariant_of-self
invariant_of-self c = IsWorld-changed_token (with_light c.args.light) (λ t. refl) c.self.inside.scene c.set_light.new.self c.self.inside.seats.items c.args.id c.set_light.ensures c.self.invariant
