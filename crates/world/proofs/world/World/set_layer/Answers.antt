use Rattle.std.proofs.Common.{refl}
use Rattle.tokens.specs.Tokens.{on_layer}
use Rattle.world.proofs.Makers.{IsWorld-changed_token}
use Rattle.world.proofs.world.World.set_layer.Goals as goal

pub invariant_of-self : goal.invariant_of-self
invariant_of-self c = IsWorld-changed_token (on_layer c.args.layer) (λ t. refl) c.self.inside.scene c.set_layer.new.self c.self.inside.seats.items c.args.id c.set_layer.ensures c.self.invariant
