use Rattle.std.proofs.Common.{refl}
use Rattle.tokens.specs.Tokens.{placed}
use Rattle.world.proofs.Makers.{IsWorld-changed_token}
use Rattle.world.proofs.world.World.place.Goals as goal

pub invariant_of-self : goal.invariant_of-self
invariant_of-self c = IsWorld-changed_token (placed c.args.map c.args.cell) (λ t. refl) c.self.inside.scene c.place.new.self c.self.inside.seats.items c.args.id c.place.ensures c.self.invariant
