use Rattle.std.proofs.Common.{refl}
use Rattle.tokens.specs.Tokens.{shown_if}
use Rattle.world.proofs.Makers.{IsWorld-changed_token}
use Rattle.world.proofs.world.World.set_visible.Goals as goal

pub invariant_of-self : goal.invariant_of-self
invariant_of-self c = IsWorld-changed_token (shown_if c.args.on) (λ t. refl) c.self.inside.scene c.set_visible.new.self c.self.inside.seats.items c.args.id c.set_visible.ensures c.self.invariant
