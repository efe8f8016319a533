use Rattle.std.proofs.Common.{refl, arith}
use Rattle.seats.specs.Book.{counted}
use Rattle.world.proofs.Books.{is_changed, IsWorld-stored, keeps_all}
use Rattle.world.proofs.world.World.count_line.Goals as goal

pub invariant_of-self : goal.invariant_of-self
invariant_of-self c =
    IsWorld-stored c.self.inside.scene c.self.inside.seats.items c.args.self.now c.args.seat c.number.result c.index_mut.result.now c.self.view_is (omega (arith, c.number.ensures.value)) c.requires.there c.index_mut.ensures.value
    counted (keeps_all counted (λ book. refl) (λ book. refl)) c.count_line.new.self c.count_line.ensures c.self.invariant

pub returns : goal.returns
returns c =
    is_changed c.self.inside.scene c.self.inside.seats.items c.args.self.now c.args.seat c.number.result c.index_mut.result.now c.self.view_is (omega (arith, c.number.ensures.value)) c.requires.there c.index_mut.ensures.value
    counted c.count_line.new.self c.count_line.ensures
