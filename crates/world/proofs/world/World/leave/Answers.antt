use Rattle.std.proofs.Common.{refl, arith}
use Rattle.seats.specs.Book.{left}
use Rattle.world.proofs.Books.{is_changed, IsWorld-stored, keeps_all}
use Rattle.world.proofs.world.World.leave.Goals as goal

pub invariant_of-self : goal.invariant_of-self
invariant_of-self c =
    IsWorld-stored c.self.inside.scene c.self.inside.seats.items c.args.self.now c.args.seat c.number.result c.index_mut.result.now c.self.view_is (omega (arith, c.number.ensures.value)) c.requires c.index_mut.ensures.value
    left (keeps_all left (λ book. refl) (λ book. refl)) c.leave.new.self c.leave.ensures c.self.invariant

pub returns : goal.returns
returns c =
    is_changed c.self.inside.scene c.self.inside.seats.items c.args.self.now c.args.seat c.number.result c.index_mut.result.now c.self.view_is (omega (arith, c.number.ensures.value)) c.requires c.index_mut.ensures.value
    left c.leave.new.self c.leave.ensures
