use Rattle.tokens.specs.Tokens.{with_prop}
use Rattle.world.specs.Scene.{with_token}
use Rattle.world.proofs.Makers.{IsWorld-with_token, as_written_if_ok, with_prop_keeps_id}
use Rattle.world.proofs.world.World.set_prop.Goals as goal

pub invariant_of-self : goal.invariant_of-self
invariant_of-self c =
    as_written_if_ok c.set_prop.result c.self.inside.scene (with_token c.args.id (with_prop c.args.class c.args.name c.args.value) c.self.inside.scene) c.set_prop.new.self c.self.inside.seats.items
    c.set_prop.ensures.ok c.set_prop.ensures.unchanged c.self.invariant
    (IsWorld-with_token (with_prop c.args.class c.args.name c.args.value) (with_prop_keeps_id c.args.class c.args.name c.args.value) c.self.inside.scene c.self.inside.seats.items c.args.id c.self.invariant)
