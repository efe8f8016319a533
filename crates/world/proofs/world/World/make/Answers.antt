use Rattle.std.proofs.Common.{◌≡◌, true, subst, sym}
use Rattle.tokens.specs.Tokens.{put}
use Rattle.world.specs.World.{World, is_used}
use Rattle.world.proofs.Makers.{IsWorld-put, as_written_if_ok}
use Rattle.world.proofs.world.World.make.Goals as goal

pub invariant_of-self : goal.invariant_of-self
invariant_of-self c =
    as_written_if_ok c.make.result c.self.inside.scene (record c.self.inside.scene { tokens = put c.args.token c.self.inside.scene.tokens }) c.make.new.self c.self.inside.seats.items
    c.make.ensures.ok c.make.ensures.unchanged c.self.invariant
    (IsWorld-put c.self.inside.scene c.self.inside.seats.items c.args.token (subst (λ (w : World). is_used w.books c.args.token.id ≡ true) (sym c.self.view_is) c.requires.used) c.self.invariant)
